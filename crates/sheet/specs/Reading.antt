-- The input taken a byte at a time, up to the 64th line: what is printed at each byte, and at the end. Over
-- the input as a whole that is the texts of its first 64 lines (`reads_lines`), whatever text a line has:
-- `say` gives it.
use mathlib.Core.{Path.◌≡◌, Path.refl, Path.sym, Path.◌∙◌, Path.ap, Logic.◌≢◌}
use Rattle.std.specs.Prelude.{Option, true, false, not}
use Rattle.std.proofs.Math.Bool.{cond}
use mathlib.Core.List.{List, [], ◌∷◌, ◌++◌, append-nil}
use Prim.Native.Nat.{ℕ, suc, ◌+◌, ◌-◌, ◌≤◌, ◌<◌}
use native.Mathlib.{Decide.ℕ_discrete, Decide.dec_lt, Omega.arith}
use lib.{ListN.take, Seq.take-nil, Dec.eqb, Dec.leb}
use borrow.Author.Tests.{le-leb, lt-leb, ne_eqb}
use Rattle.sheet_line.specs.declared.line.Asking.{Asking}
use Rattle.text_spaced.specs.declared.spaced.Scan.{Scan}
use Rattle.sheet.specs.declared.reading.Reading.{Reading}
use Rattle.text_lines.specs.Lines.{is_empty, lines_from}
use Rattle.text_spaced.specs.Fold.{folded, folded_append}
use Rattle.text_spaced.specs.Scanning.{fresh, scanned, scanned_all}
use Rattle.sheet_line.specs.Line.{ended, line_of}
use Rattle.sheet_text.specs.Head.{reads}

-- how far the input is read before its first byte: where no line is read, as after the 64th
unfoldable pub beginning : List ℕ → List ℕ → Reading
beginning network plan = record { lines = cond (reads network plan) 0 64; begun = false; scan = fresh }

-- the state after one more byte: a line feed ends a line, any other byte goes on with one; after the 64th
-- line nothing is read
unfoldable pub stepped : Reading → ℕ → Reading
stepped r b =
    cond (leb 64 r.lines) r
    (cond (eqb b 10) (record { lines = r.lines + 1; begun = false; scan = fresh })
    (record { lines = r.lines; begun = true; scan = scanned 10 r.scan b }))

-- the state after bytes of the input, one after the other
abbrev pub stepped_all : Reading → List ℕ → Reading
stepped_all r bs = folded stepped r bs

module _ (say : Option Asking → List ℕ) where
  -- what is printed at that byte: at a line feed the text of the line
  unfoldable pub step_text : Reading → ℕ → List ℕ
  step_text r b = cond (leb 64 r.lines) [] (cond (eqb b 10) (say (ended r.scan)) [])

  -- what is printed at the end of the input: the text of a line that has begun
  unfoldable pub end_text : Reading → List ℕ
  end_text r = cond (leb 64 r.lines) [] (cond r.begun (say (ended r.scan)) [])

  -- what is printed for an input
  unfoldable pub run_text : Reading → List ℕ → List ℕ
  run_text r [] = end_text r
  run_text r (b ∷ bs) = step_text r b ++ run_text (stepped r b) bs

  -- the texts of lines
  unfoldable pub texts_of : List (List ℕ) → List ℕ
  texts_of [] = []
  texts_of (line ∷ lines) = say (line_of line) ++ texts_of lines

  -- nothing is printed after the 64th line
  pub full : (bs : List ℕ) (r : Reading) → 64 ≤ r.lines → run_text r bs ≡ []
  unfolding run_text end_text step_text stepped
  full [] r l = rw (le-leb 64 r.lines l)
  full (b ∷ bs) r l = rw (le-leb 64 r.lines l) (full bs r l)

  none : (lines : List (List ℕ)) (n : ℕ) → 64 ≤ n → texts_of (take (64 - n) lines) ≡ []
  unfolding texts_of
  none lines n l = let q : 64 - n ≡ 0 = omega arith in rw q

-- a line after one more of its bytes
more_begun : (w : List ℕ) (b : ℕ) → not (is_empty (w ++ (b ∷ []))) ≡ true
more_begun [] b = refl
more_begun (a ∷ w) b = refl

more_scanned : (s : Option Scan) (w : List ℕ) (b : ℕ)
    → scanned_all 10 s (w ++ (b ∷ [])) ≡ scanned 10 (scanned_all 10 s w) b
unfolding folded
more_scanned s w b = folded_append (scanned 10) s w (b ∷ [])

-- n lines are read, and the bytes w of one more
abbrev after : ℕ → List ℕ → Reading
after n w = record { lines = n; begun = not (is_empty w); scan = scanned_all 10 fresh w }

module _ (say : Option Asking → List ℕ) where
  at_end : (n : ℕ) (w : List ℕ) → n < 64
      → run_text say (after n w) [] ≡ texts_of say (take (64 - n) (lines_from w []))
  unfolding run_text end_text texts_of lines_from
  at_end n w l =
      let q : 64 - n ≡ suc (63 - n) = omega arith in
      rw (lt-leb 64 n l, q) (by w)
    where
      by : (w : List ℕ) → cond (not (is_empty w)) (say (line_of w)) []
          ≡ texts_of say (take (suc (63 - n)) (cond (is_empty w) [] (w ∷ [])))
      by [] = refl
      by (b ∷ w) =
          let text = say (line_of (b ∷ w)) in
          sym
          (ap (λ (lines : List (List ℕ)). text ++ texts_of say lines) (take-nil (63 - n)) ∙ append-nil text)

  at_line_feed : (n b : ℕ) (w bs : List ℕ) → n < 64 → b ≡ 10
      → run_text say (after (n + 1) []) bs ≡ texts_of say (take (64 - (n + 1)) (lines_from [] bs))
      → run_text say (after n w) (b ∷ bs) ≡ texts_of say (take (64 - n) (lines_from w (b ∷ bs)))
  unfolding run_text step_text stepped texts_of lines_from folded
  at_line_feed n b w bs l e ih =
      let q : 64 - n ≡ suc (64 - (n + 1)) = omega arith in
      rw (e, lt-leb 64 n l, q) (ap (λ (t : List ℕ). say (line_of w) ++ t) ih)

  at_byte : (n b : ℕ) (w bs : List ℕ) → n < 64 → b ≢ 10
      → run_text say (after n (w ++ (b ∷ []))) bs
      ≡ texts_of say (take (64 - n) (lines_from (w ++ (b ∷ [])) bs))
      → run_text say (after n w) (b ∷ bs) ≡ texts_of say (take (64 - n) (lines_from w (b ∷ bs)))
  unfolding run_text step_text stepped lines_from
  at_byte n b w bs l e ih =
      rw (lt-leb 64 n l, ne_eqb b 10 e) (rw (more_begun w b, more_scanned fresh w b) at ih)

  pub reads_lines : (bs w : List ℕ) (n : ℕ)
      → run_text say (after n w) bs ≡ texts_of say (take (64 - n) (lines_from w bs))
  reads_lines [] w n = elim (dec_lt n 64) [
    | yes l ↦ at_end n w l
    | no l ↦ full say [] (after n w) (omega arith) ∙ sym (none say (lines_from w []) n (omega arith))
  ]
  reads_lines (b ∷ bs) w n = elim (dec_lt n 64) [
    | yes l ↦ elim (ℕ_discrete b 10) [
      | yes e ↦ at_line_feed n b w bs l e (reads_lines bs [] (n + 1))
      | no e ↦ at_byte n b w bs l e (reads_lines bs (w ++ (b ∷ [])) n)
    ]
    | no l ↦ full say (b ∷ bs) (after n w) (omega arith)
        ∙ sym (none say (lines_from w (b ∷ bs)) n (omega arith))
  ]
