-- Runs that stand one behind the other: run a, from 0, goes from index `start a` up to `start (a + 1)`. Where
-- a test holds at the first index of each run that has one, and at no more indices than there are such runs,
-- it holds at no other index.
use mathlib.Core.{Path.◌≡◌, Path.refl, Bool.Bool, Bool.true, Bool.false}
use Rattle.std.specs.Prelude.{ℕ, zero, suc, ◌+◌, ◌-◌, ◌≤◌, ◌<◌}
use native.Mathlib.{Numerals.add-one, Omega.arith}
use Rattle.theory_loops.specs.Count.{count, count_none, count_yes, count_no, count_grows, count_rises}

-- the test p holds at the first index of each of R runs for which q says that they have one
pub record Begun (p q : ℕ → Bool) (start : ℕ → ℕ) (R : ℕ) : Type 0 where
  pub grows : (a : ℕ) → a < R → start a ≤ start (suc a)
  pub some : (a : ℕ) → a < R → q a ≡ true → start a < start (suc a)
  pub first : (a : ℕ) → a < R → q a ≡ true → p (start a) ≡ true

module _ (p q : ℕ → Bool) (start : ℕ → ℕ) (R : ℕ) (b : Begun p q start R) where
  -- one run more: where it has an index, one break more at least
  step : (a : ℕ) → a < R → count (start a) p + count (suc a) q ≤ count (start (suc a)) p + count a q
  step a l = go (q a) refl
    where
      go : (t : Bool) → q a ≡ t → count (start a) p + count (suc a) q ≤ count (start (suc a)) p + count a q
      go true e = omega (
        arith,
        count_rises p (start a) (start (suc a)) (b.some a l e) (b.first a l e),
        rw (add-one a) at (count_yes q (count a q) a refl e),
      )
      go false e = omega (
        arith,
        count_grows p (start a) (start (suc a)) (b.grows a l),
        rw (add-one a) at (count_no q (count a q) a refl e),
      )

  -- so there are as many breaks as runs at least, before each run and from it on
  before : (a : ℕ) → a ≤ R → count a q ≤ count (start a) p
  before zero l = omega (arith, count_none q)
  before (suc a) l = omega (arith, step a (omega arith), before a (omega arith))

  after : (j a : ℕ) → a + j ≡ R → count (start a) p + count R q ≤ count (start R) p + count a q
  after zero a e = let z : a ≡ R = omega arith in rw z (omega arith)
  after (suc j) a e = omega (arith, step a (omega arith), after j (suc a) (omega arith))

  -- THE LAW
  pub only_first : count (start R) p ≤ count R q → (a k : ℕ) → a < R → start a < k → k < start (suc a)
      → p k ≡ false
  only_first few a k l m n = go (p k) refl
    where
      most : (c j : ℕ) → c + j ≡ R → count (start c) p ≤ count c q
      most c j e = omega (arith, after j c e)

      go : (t : Bool) → p k ≡ t → p k ≡ false
      go false e = e
      go true e = clash (q a) refl
        where
          clash : (t : Bool) → q a ≡ t → p k ≡ false
          clash true f = absurd (omega (
            arith,
            before a (omega arith),
            count_rises p (start a) k m (b.first a l f),
            count_rises p k (start (suc a)) n e,
            most (suc a) (R - suc a) (omega arith),
            rw (add-one a) at (count_yes q (count a q) a refl f),
          ))
          clash false f = absurd (omega (
            arith,
            before a (omega arith),
            count_grows p (start a) k (omega arith),
            count_rises p k (start (suc a)) n e,
            most (suc a) (R - suc a) (omega arith),
            rw (add-one a) at (count_no q (count a q) a refl f),
          ))
