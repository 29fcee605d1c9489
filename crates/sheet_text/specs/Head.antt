-- The first line of the sheet: the check, or `too large` where a file has more bytes than the sheet takes.
-- Lines are read only where the plan is accepted.
use mathlib.Core.{Bool.Bool, Bool.true, Bool.false, Bool.cond, List.List, List.[], List.◌∷◌, List.◌++◌}
use Rattle.std.specs.Prelude.{ℕ, Result, Ok, Err, ⊤}
use lib.{ListN.length, Dec.ltb}
use Rattle.plan_check.specs.CheckPlan.{checking}
use Rattle.text_numbers.specs.Text.{ascii, line_feed}
use Rattle.file_refusals.specs.declared.Refusal.{Refusal}
use Rattle.sheet_text.specs.Numbers.{spaced}

-- the most bytes that a file may have
abbrev pub most : ℕ
most = 24576

-- the check's verdict: of a refusal its number and three places
unfoldable pub verdict_text : Result ⊤ Refusal → List ℕ
verdict_text (Ok _) = ascii "plan accepted\n"
verdict_text (Err r) =
    ascii "plan refused" ++ spaced (r.number ∷ r.first ∷ r.second ∷ r.third ∷ []) ++ line_feed

unfoldable pub is_accepted : Result ⊤ Refusal → Bool
is_accepted (Ok _) = true
is_accepted (Err r) = false

-- the first line
unfoldable pub head_text : List ℕ → List ℕ → List ℕ
head_text network plan =
    cond (ltb most (length network)) (ascii "too large\n")
    (cond (ltb most (length plan)) (ascii "too large\n")
    (verdict_text (checking network plan)))

-- are lines read?
unfoldable pub reads : List ℕ → List ℕ → Bool
reads network plan =
    cond (ltb most (length network)) false
    (cond (ltb most (length plan)) false
    (is_accepted (checking network plan)))
