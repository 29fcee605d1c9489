-- The laws by which the code of the first line meets its definitions: by the files' lengths, by the verdict,
-- and by whether lines are read.
use mathlib.Core.{Path.◌≡◌, Bool.Bool, Bool.true, Bool.false, List.List, List.[], List.◌∷◌}
use Rattle.std.specs.Prelude.{ℕ, ◌≤◌, ◌<◌, length, Result, Ok, Err, ⊤}
use borrow.Author.Tests.{lt-ltb, le-ltb}
use Rattle.file_refusals.specs.declared.Refusal.{Refusal}
use Rattle.plan_check.specs.CheckPlan.{checking}
use Rattle.text_numbers.specs.Text.{Stored, ascii, line_feed, stored_then}
use Rattle.sheet_text.specs.Numbers.{spaced}
use Rattle.sheet_text.specs.Head.{most, verdict_text, is_accepted, head_text, reads}

pub refusal_stored : (old mid new last : List ℕ) (next end count : ℕ) (r : Refusal)
    → Stored old mid 0 next (ascii "plan refused")
    → Stored mid new next end (spaced (r.number ∷ r.first ∷ r.second ∷ r.third ∷ []))
    → Stored new last end count line_feed
    → Stored old last 0 count (verdict_text (Err r))
unfolding verdict_text
refusal_stored old mid new last next end count r p q f =
    stored_then old new last 0 end count _ line_feed
    (stored_then old mid new 0 next end (ascii "plan refused")
    (spaced (r.number ∷ r.first ∷ r.second ∷ r.third ∷ [])) p q)
    f

-- the verdict, by its case
module _ (x : Result ⊤ Refusal) where
  pub accepted_text : (old new : List ℕ) (count : ℕ) → x ≡ Ok tt
      → Stored old new 0 count (ascii "plan accepted\n") → Stored old new 0 count (verdict_text x)
  unfolding verdict_text
  accepted_text old new count e p = rw e p

  pub refused_text : (old new : List ℕ) (count : ℕ) (r : Refusal) → x ≡ Err r
      → Stored old new 0 count (verdict_text (Err r)) → Stored old new 0 count (verdict_text x)
  refused_text old new count r e p = rw e p

  pub accepted_is : x ≡ Ok tt → true ≡ is_accepted x
  unfolding is_accepted
  accepted_is e = rw e

  pub refused_is : (r : Refusal) → x ≡ Err r → false ≡ is_accepted x
  unfolding is_accepted
  refused_is r e = rw e

-- the first line, by the files' lengths
module _ (network plan old new : List ℕ) (count : ℕ) where
  pub head_network : most < length network → Stored old new 0 count (ascii "too large\n")
      → Stored old new 0 count (head_text network plan)
  unfolding head_text
  head_network l p = rw (lt-ltb most (length network) l) p

  pub head_plan : length network ≤ most → most < length plan → Stored old new 0 count (ascii "too large\n")
      → Stored old new 0 count (head_text network plan)
  unfolding head_text
  head_plan k l p = rw (le-ltb most (length network) k, lt-ltb most (length plan) l) p

  pub head_verdict : (x : Result ⊤ Refusal) → length network ≤ most → length plan ≤ most → x ≡ checking network plan
      → Stored old new 0 count (verdict_text x)
      → Stored old new 0 count (head_text network plan)
  unfolding head_text
  head_verdict x k l e p = rw (le-ltb most (length network) k, le-ltb most (length plan) l, ← e) p

module _ (network plan : List ℕ) where
  pub reads_network : (b : Bool) → most < length network → b ≡ false → b ≡ reads network plan
  unfolding reads
  reads_network b l f = rw (lt-ltb most (length network) l) f

  pub reads_plan : (b : Bool) → length network ≤ most → most < length plan → b ≡ false
      → b ≡ reads network plan
  unfolding reads
  reads_plan b k l f = rw (le-ltb most (length network) k, lt-ltb most (length plan) l) f

  pub reads_verdict : (x : Result ⊤ Refusal) (b : Bool) → length network ≤ most → length plan ≤ most
      → x ≡ checking network plan → b ≡ is_accepted x → b ≡ reads network plan
  unfolding reads
  reads_verdict x b k l e f = rw (le-ltb most (length network) k, le-ltb most (length plan) l, ← e) f

-- for `search heads` in the code of the first line
pub ruleset heads = (
  accepted_text,
  refused_text,
  accepted_is,
  refused_is,
  head_network,
  head_plan,
  head_verdict,
  reads_network,
  reads_plan,
  reads_verdict,
)
