-- The least and the greatest of a day's points, looked at one after the other: no value of the day is below
-- the one or above the other.
use Rattle.std.specs.Prelude.{◌≡◌, ℕ, ◌+◌, ◌≤◌, ◌<◌, min, max}
use native.Mathlib.{Decide.ℕ_discrete, Omega.arith}
use Rattle.theory_travel.specs.Day.{Day, day_value, day_least, day_most}

-- m is at most the first k numbers, and at least them
pub record Least (v : ℕ → ℕ) (k m : ℕ) : Type 0 where
  pub all : (i : ℕ) → i < k → m ≤ v i

pub record Most (v : ℕ → ℕ) (k m : ℕ) : Type 0 where
  pub all : (i : ℕ) → i < k → v i ≤ m

module _ (v : ℕ → ℕ) where
  pub least_one : (q : ℕ) → q ≡ v 0 → Least v 1 q
  least_one q e = record { all = λ i l. let z : i ≡ 0 = omega arith in rw z (omega arith) }

  pub most_one : (q : ℕ) → q ≡ v 0 → Most v 1 q
  most_one q e = record { all = λ i l. let z : i ≡ 0 = omega arith in rw z (omega arith) }

  pub least_more : (k m q r : ℕ) → Least v k m → q ≡ v k → r ≡ min m q → Least v (k + 1) r
  least_more k m q r h e f = record {
    all = λ i l. elim (ℕ_discrete i k) [
      | yes z ↦ rw z (omega arith)
      | no z ↦ omega (arith, h.all i (omega arith))
    ];
  }

  pub most_more : (k m q r : ℕ) → Most v k m → q ≡ v k → r ≡ max m q → Most v (k + 1) r
  most_more k m q r h e f = record {
    all = λ i l. elim (ℕ_discrete i k) [
      | yes z ↦ rw z (omega arith)
      | no z ↦ omega (arith, h.all i (omega arith))
    ];
  }

-- f is never below m, and never above it
pub record Floor (f : ℕ → ℕ) (period m : ℕ) : Type 0 where
  pub least : (x : ℕ) → x < period → m ≤ f x

pub record Ceiling (f : ℕ → ℕ) (period m : ℕ) : Type 0 where
  pub most : (x : ℕ) → x < period → f x ≤ m

-- THE BOUNDS of a day with these n points
module _ {t v : ℕ → ℕ} {n period : ℕ} (d : Day t n period) (m x : ℕ) (l : x < period) where
  pub least_day : Least v n m → m ≤ day_value t v n period x
  least_day h = day_least d v m x h.all l

  pub most_day : Most v n m → day_value t v n period x ≤ m
  most_day h = day_most d v m x h.all l
