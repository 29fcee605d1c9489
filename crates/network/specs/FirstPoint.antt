-- The first point of all arcs at which a test holds: the first arc that has such a point, and its first. The
-- laws lead from the arcs to `first_point`.
use mathlib.Core.{Path.◌≡◌, Bool.Bool}
use Rattle.std.specs.Prelude.{ℕ, ◌+◌, ◌≤◌, ◌<◌}
use Rattle.std.proofs.Common.{arith}
use borrow.Author.Tests.{lt-ltb, le-ltb}
use Rattle.theory_loops.specs.{First.first, First.any, Total.total_part}
use Rattle.network.specs.Network.{Network, arcs, points, count, start}
use Rattle.network.specs.Rules.{first_point}

-- what rule 8 has shown of the counts before the points are scanned
pub record Counted (n : Network) : Type 0 where
  pub some : (a : ℕ) → a < arcs n → 0 < count n a
  pub sum : start n (arcs n) ≡ points n

-- a test holds at some point of arc a
abbrev pub any_of : Network → (ℕ → ℕ → Bool) → ℕ → Bool
any_of n test a = any (count n a) (test a)

-- the points of an arc stand before the end
pub points_in : {n : Network} → Counted n → (a : ℕ) → a < arcs n → start n a + count n a ≤ points n
unfolding start
points_in {n} c a l = rw c.sum at (total_part (count n) a (arcs n) l)

module _ (n : Network) (test : ℕ → ℕ → Bool) where
  pub none_first : (k : ℕ) → first k (any_of n test) ≡ k → first_point n test k ≡ points n
  unfolding first_point
  none_first k e = rw (e, le-ltb k k (omega arith))

  pub at_first : (k a : ℕ) → a ≡ first k (any_of n test) → a < k
      → start n a + first (count n a) (test a) ≡ first_point n test k
  unfolding first_point
  at_first k a e l = rw (← e, lt-ltb a k l)
