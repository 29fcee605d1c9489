-- A line that asks for a trip: three decimal numbers, one space apart, each of 32 bits. Leading zeros are
-- allowed, and any number of them. The scan says so exactly where it is such a line (`line_exactly`).
use mathlib.Core.{Path.◌≡◌, Path.refl, Path.subst, Logic.◌↔◌, Bool.Bool, Bool.true, Bool.false, Bool.cond}
use Rattle.std.specs.Prelude.{Option, Some, None, List, [], ◌∷◌, ℕ}
use Rattle.std.proofs.Common.{arith, lt-ltb}
use Rattle.text_spaced.specs.declared.spaced.Scan.{Scan}
use Rattle.text_numbers.specs.Spaced.{Spaced}
use Rattle.text_spaced.specs.Scanning.{fresh, scanned_all, whole}
use Rattle.text_spaced.specs.SpacedExact.{three_values, scanned_spaced, three_read}
use Rattle.sheet_line.specs.declared.line.Asking.{Asking}

-- the line asks for this trip
abbrev pub AsksFor : List ℕ → Asking → Type 0
AsksFor line a = Spaced 10 line (a.from ∷ a.to ∷ a.leave ∷ [])

-- the trip of three numbers that have been read
abbrev pub asked_by : Scan → Asking
asked_by s = record { from = s.first; to = s.second; leave = s.value }

-- what a line asks for, once it has ended: a trip, or nothing
unfoldable pub ended : Option Scan → Option Asking
ended None = None
ended (Some s) = cond (whole s 3) (Some (asked_by s)) None

-- what a line is: it asks for a trip, or it is of another shape
abbrev pub line_of : List ℕ → Option Asking
line_of w = ended (scanned_all 10 fresh w)

asking : (line : List ℕ) (a : Asking) → line_of line ≡ Some a → AsksFor line a
unfolding ended
asking line a e = read (scanned_all 10 fresh line) refl
  where
    same : (k a : Asking) → Some k ≡ Some a → k ≡ a
    same k a e = cc

    none_some : {P : Type 0} → None ≡ Some a → P
    none_some e = let z : ◌≡◌ {A = ℕ} 0 1 = cc in absurd (omega arith)

    go : (s : Scan) (t : Bool) → scanned_all 10 fresh line ≡ Some s → whole s 3 ≡ t → AsksFor line a
    go s true g f =
        let k : asked_by s ≡ a = same (asked_by s) a (rw (g, f) at e) in
        subst (AsksFor line) k (rw (three_values s f) at (scanned_spaced 10 3 line s g f))
    go s false g f = none_some (rw (g, f) at e)

    read : (o : Option Scan) → scanned_all 10 fresh line ≡ o → AsksFor line a
    read None g = none_some (rw g at e)
    read (Some s) g = go s (whole s 3) g refl

asked : (line : List ℕ) (a : Asking) → AsksFor line a → line_of line ≡ Some a
unfolding ended whole
asked line a h =
    let (d, l, e) = three_read 10 line a.from a.to a.leave h in
    rw (e, lt-ltb 0 d l)

-- A LINE asks for a trip exactly where it is three numbers of 32 bits, one space apart
pub line_exactly : (line : List ℕ) (a : Asking) → (line_of line ≡ Some a) ↔ AsksFor line a
line_exactly line a = (asking line a, asked line a)
