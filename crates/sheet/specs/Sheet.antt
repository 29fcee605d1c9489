-- THE RUN SHEET of two files and an input, and that the program's steps print it: what is printed at the
-- start, at each byte of the input in order, and at its end, one after the other, is the sheet, for every
-- input (`sheet_bytes`).
use mathlib.Core.{Path.◌≡◌, Path.ap, Bool.Bool, Bool.true, Bool.false, Bool.cond}
use Rattle.std.specs.Prelude.{List, [], ◌++◌, ℕ, take}
use Rattle.std.proofs.Common.{arith}
use Rattle.text_spaced.specs.{Fold.folded, Scanning.fresh}
use Rattle.text_lines.specs.Lines.{lines_of}
use Rattle.sheet.specs.Reading.{run_text, texts_of, reads_lines, full}
use Rattle.sheet_text.specs.{TripText.line_text, Head.head_text, Head.reads}
use Rattle.sheet.specs.Reading.{beginning}

-- the first line; then, where lines are read, the texts of the first 64
unfoldable pub sheet_text : List ℕ → List ℕ → List ℕ → List ℕ
sheet_text network plan input =
    head_text network plan
    ++ cond (reads network plan) (texts_of (line_text network plan) (take 64 (lines_of input))) []

pub sheet_bytes : (network plan input : List ℕ)
    → head_text network plan ++ run_text (line_text network plan) (beginning network plan) input
    ≡ sheet_text network plan input
unfolding sheet_text beginning folded
sheet_bytes network plan input = ap (λ (t : List ℕ). head_text network plan ++ t) (by (reads network plan))
  where
    by : (b : Bool)
        → run_text (line_text network plan) (record { lines = cond b 0 64; begun = false; scan = fresh })
        input
        ≡ cond b (texts_of (line_text network plan) (take 64 (lines_of input))) []
    by true = reads_lines (line_text network plan) input [] 0
    by false = full (line_text network plan) input _ (omega arith)
