-- The first index below a bound at which a test holds, as a chain of the library looks for it:
-- `(0..n).position(test).unwrap_or(n)`.
use mathlib.Core.{Path.◌≡◌, Path.sym, Path.◌∙◌}
use mathlib.Core.Bool.{Bool, true, false}
use Rattle.std.specs.Prelude.{ℕ, ◌<◌, length, get_or, Option, None, Some, ⊤}
use native.Mathlib.Omega.{arith}
use denote.Param.Members.{Mut}
use Rattle.std.specs.declared.ops.Range.{Range}
use Rattle.std.specs.Fn.{Called}
use Rattle.std.specs.Iterator.{FindsPosition}
use Rattle.std.specs.List.{range_with_len, AllWithin, HoldsAt}
use Rattle.std.specs.Option.{MatchOption, unwrap_or}
use Rattle.std.proofs.iter.Yields.{nat_range_steps}
use Rattle.std.proofs.lemmas.Iterator.{IsFirst-from_position, YieldsList-from_range}
use Rattle.std.proofs.lemmas.List.FromFn.{length-range_with_len, get_or-range_with_len}
use Rattle.theory_loops.specs.First.{First, first, first_is}

module _ (n : ℕ) (p : ℕ → Bool) where
  entry : (k : ℕ) → k < n → get_or (range_with_len 0 n) k 0 ≡ k
  entry k l = omega (arith, get_or-range_with_len 0 n k 0 l)

  -- what the chain found, none or some index
  found_first : (r : Option ℕ)
      → MatchOption r (AllWithin (λ k. p k ≡ false) (range_with_len 0 n) 0 (length (range_with_len 0 n)))
      (λ i. (i < length (range_with_len 0 n)) × HoldsAt (λ k. p k ≡ true) (range_with_len 0 n) i
      × AllWithin (λ k. p k ≡ false) (range_with_len 0 n) 0 i)
      → First n p (unwrap_or r n)
  found_first None h = record {
    within = omega arith;
    before = λ k l. rw (entry k l) at (h k 0 (omega arith) (omega (arith, length-range_with_len 0 n)));
    at = λ l. absurd (omega arith);
  }
  found_first (Some i) h =
      let l : i < n = omega (arith, h.0, length-range_with_len 0 n) in
      record {
        within = omega (arith, l);
        before = λ k m. rw (entry k (omega arith)) at (h.2 k 0 (omega arith) m);
        at = λ _. rw (entry i l) at (h.1 0);
      }

  -- by what the test answers at each index
  pub position_first : {F : Type 0} {g : Mut F (ℕ × ⊤) Bool} {s u : Range ℕ} {f : F} {r : Option ℕ} {t : ℕ}
      → FindsPosition nat_range_steps g s f r u → s ≡ record { start = 0; end = n }
      → t ≡ unwrap_or r n → ((k : ℕ) (b : Bool) (q : F) → Called g f (k, tt) b q → (q ≡ f) × (b ≡ p k))
      → t ≡ first n p
  position_first {u = u} {f = f} {r = r} ran from e test =
      e ∙ first_is p n (unwrap_or r n)
      (found_first r
      (IsFirst-from_position u f r (λ k. p k ≡ true) (λ k. p k ≡ false) ran
      (YieldsList-from_range 0 n n from (omega arith))
      (λ k q c. sym (test k true q c).1)
      (λ k q c. ((test k false q c).0, sym (test k false q c).1))))
