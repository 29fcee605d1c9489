-- The binary search for the segment of a tick, over points in general: the invariant of its loop, and what it
-- has found at the end.
use Rattle.std.specs.Prelude.{◌≡◌, ℕ, suc, ◌+◌, ◌≤◌, ◌<◌}
use native.Mathlib.{Nat.le_of_lt, Nat.le_trans, Numerals.add-one, Omega.arith}
use Rattle.std.proofs.Math.Dec.{ltb}
use borrow.Author.Tests.{lt-ltb, le-ltb}
use Rattle.theory_loops.specs.First.{first_is}
use Rattle.theory_travel.specs.Points.{segment, climbs}

-- what can be searched for tick x: n ticks that rise, the first of them at or before x
pub record Sorted (t : ℕ → ℕ) (n x : ℕ) : Type 0 where
  pub some : 0 < n
  pub begun : t 0 ≤ x
  pub rise : (i : ℕ) → suc i < n → t i < t (suc i)

-- point k is the segment of tick x, with what its reader needs at once
pub record Last (t : ℕ → ℕ) (n x k : ℕ) : Type 0 where
  pub is : k ≡ segment t n x
  pub below : k < n
  pub at : t k ≤ x
  pub next : k + 1 < n → x < t (k + 1)

-- the invariant: point a is at or before x, and point b, if there is one, after it
pub record Between (t : ℕ → ℕ) (n x a b : ℕ) : Type 0 where
  pub sorted : Sorted t n x
  pub apart : a < b
  pub within : b ≤ n
  pub at : t a ≤ x
  pub next : b < n → x < t b

module _ (t : ℕ → ℕ) (n x : ℕ) where
  pub between_start : Sorted t n x → Between t n x 0 n
  between_start s =
      record {
        sorted = s;
        apart = s.some;
        within = omega arith;
        at = s.begun;
        next = λ m. absurd (omega arith);
      }

  pub between_end : (a b : ℕ) → Between t n x a b → b ≤ a + 1 → Last t n x a
  unfolding segment
  between_end a b h l =
      let e : b ≡ a + 1 = omega (arith, h.apart) in
      let next : a + 1 < n → x < t (a + 1) = rw e at h.next in
      record {
        is = omega (
          arith,
          first_is (λ i. ltb x (t i)) n (suc a)
              (record {
                within = omega (arith, h.within);
                before = λ k m. le-ltb x (t k)
                    (le_trans (climbs t a
                    (λ i o. le_of_lt (h.sorted.rise i (omega (arith, h.within)))) k a (omega arith)
                    (omega arith)) h.at);
                at = λ m. lt-ltb x (t (suc a)) (rw add-one at (next (omega arith)));
              }),
        );
        below = omega (arith, h.within);
        at = h.at;
        next = next;
      }
