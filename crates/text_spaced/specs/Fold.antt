-- Bytes taken one after the other: the state that they lead to, whatever a state is.
use mathlib.Core.{Path.◌≡◌, Path.refl, List.List, List.[], List.◌∷◌, List.◌++◌}
use Rattle.std.specs.Prelude.{ℕ, ◌+◌, ◌≤◌, ◌<◌}
use native.Mathlib.{Numerals.add-one, Omega.arith}
use lib.{ListN.length, ListN.get_or, ListN.take, Seq.take-suc, Seq.take-length}

-- the state after these bytes, where `step` is what one byte does
unfoldable pub folded : {S : Type 0} → (S → ℕ → S) → S → List ℕ → S
folded step s [] = s
folded step s (b ∷ bs) = folded step (step s b) bs

module _ {S : Type 0} (step : S → ℕ → S) where
  pub folded_append : (s : S) (bs cs : List ℕ)
      → folded step s (bs ++ cs) ≡ folded step (folded step s bs) cs
  unfolding folded
  folded_append s [] cs = refl
  folded_append s (b ∷ bs) cs = folded_append (step s b) bs cs

  -- FOR A LOOP over bytes of which the first i are taken
  pub folded_none : (s t : S) (bs : List ℕ) → t ≡ s → t ≡ folded step s (take 0 bs)
  unfolding folded
  folded_none s t bs e = e

  pub folded_next : (s t next : S) (bs : List ℕ) (i : ℕ) → t ≡ folded step s (take i bs) → i < length bs
      → next ≡ step t (get_or bs i 0) → next ≡ folded step s (take (i + 1) bs)
  unfolding folded
  folded_next s t next bs i e l f =
      rw (add-one i, take-suc bs i 0 l, folded_append s (take i bs) (get_or bs i 0 ∷ []), ← e) f

  pub folded_end : (s t : S) (bs : List ℕ) (i : ℕ) → t ≡ folded step s (take i bs) → i ≤ length bs
      → length bs ≤ i → t ≡ folded step s bs
  folded_end s t bs i e l m =
      let q : i ≡ length bs = omega arith in
      rw (take-length bs) at (rw q at e)

-- for `search bytewise` in such a loop
pub ruleset bytewise = (folded_none, folded_next, folded_end)
