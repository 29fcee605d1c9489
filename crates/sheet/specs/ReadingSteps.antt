-- The laws by which the code of a step meets its definitions: by whether the 64th line is past, and by the
-- byte.
use mathlib.Core.{Path.◌≡◌, Bool.Bool, Bool.true, Bool.false, Bool.cond, List.List}
use Rattle.std.specs.Prelude.{Option, ℕ, ◌+◌, ◌≤◌, ◌<◌}
use borrow.Author.Tests.{le-leb, lt-leb, eq-eqb, ne_eqb}
use Rattle.sheet_line.specs.declared.line.Asking.{Asking}
use Rattle.text_spaced.specs.declared.spaced.Scan.{Scan}
use Rattle.sheet.specs.declared.reading.Reading.{Reading}
use Rattle.text_numbers.specs.Text.{Stored}
use Rattle.sheet_text.specs.Printed.{most_line, Printed, printed, printed_none}
use Rattle.text_spaced.specs.Scanning.{fresh, scanned}
use Rattle.sheet_line.specs.Line.{ended}
use Rattle.sheet_text.specs.Head.{reads}
use Rattle.sheet.specs.Reading.{beginning, stepped, step_text, end_text}

-- before the first byte
pub begins : (network plan : List ℕ) (b : Bool) (n : ℕ) (s : Option Scan) → b ≡ reads network plan
    → n ≡ cond b 0 64 → s ≡ fresh
    → record { lines = n; begun = false; scan = s } ≡ beginning network plan
unfolding beginning
begins network plan b n s e f g = rw (f, e, g)

module _ (r : Reading) (b : ℕ) where
  pub stepped_past : 64 ≤ r.lines → r ≡ stepped r b
  unfolding stepped
  stepped_past l = rw (le-leb 64 r.lines l)

  pub stepped_line : (s : Option Scan) → r.lines < 64 → b ≡ 10 → s ≡ fresh
      → record { lines = r.lines + 1; begun = false; scan = s } ≡ stepped r b
  unfolding stepped
  stepped_line s l e f = rw (lt-leb 64 r.lines l, eq-eqb b 10 e, f)

  pub stepped_byte : (s : Option Scan) → r.lines < 64 → (b ≡ 10 → ⊥) → s ≡ scanned 10 r.scan b
      → record { lines = r.lines; begun = true; scan = s } ≡ stepped r b
  unfolding stepped
  stepped_byte s l e f = rw (lt-leb 64 r.lines l, ne_eqb b 10 e, f)

module _ (say : Option Asking → List ℕ) (r : Reading) (old : List ℕ) where
  pub step_past : (b : ℕ) → 64 ≤ r.lines → Printed old old 0 (step_text say r b)
  unfolding step_text
  step_past b l = rw (le-leb 64 r.lines l) (printed_none old)

  pub step_line : (b : ℕ) (new : List ℕ) (count : ℕ) → r.lines < 64 → b ≡ 10
      → Stored old new 0 count (say (ended r.scan)) → count ≤ most_line
      → Printed old new count (step_text say r b)
  unfolding step_text
  step_line b new count l e p m = rw (lt-leb 64 r.lines l, eq-eqb b 10 e) (printed old new count _ p m)

  pub step_byte : (b : ℕ) → r.lines < 64 → (b ≡ 10 → ⊥) → Printed old old 0 (step_text say r b)
  unfolding step_text
  step_byte b l e = rw (lt-leb 64 r.lines l, ne_eqb b 10 e) (printed_none old)

  pub end_past : 64 ≤ r.lines → Printed old old 0 (end_text say r)
  unfolding end_text
  end_past l = rw (le-leb 64 r.lines l) (printed_none old)

  pub end_line : (new : List ℕ) (count : ℕ) → r.lines < 64 → r.begun ≡ true
      → Stored old new 0 count (say (ended r.scan)) → count ≤ most_line
      → Printed old new count (end_text say r)
  unfolding end_text
  end_line new count l e p m = rw (lt-leb 64 r.lines l, e) (printed old new count _ p m)

  pub end_none : r.lines < 64 → r.begun ≡ false → Printed old old 0 (end_text say r)
  unfolding end_text
  end_none l e = rw (lt-leb 64 r.lines l, e) (printed_none old)

-- for `search steps` in the code of a step
pub ruleset steps = (
  stepped_past,
  stepped_line,
  stepped_byte,
  step_past,
  step_line,
  step_byte,
  end_past,
  end_line,
  end_none,
)
