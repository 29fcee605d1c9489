-- Steps of d / n by one division: a step is f parts, and 4,294,967,296 parts make a whole. Rounded UP, f
-- makes k steps exact when they are rounded down; rounded DOWN, exact when they are rounded up. The fault of
-- f is less than n parts in n steps, so up to n steps stray by less than the n-th part of a whole, and no
-- multiple of 1 / n is missed. It needs only n · n at most 4,294,967,296: ticks of 16 bits.
use Rattle.std.specs.Prelude.{◌≡◌}
use Rattle.std.proofs.Common.{ap, le_of_mul-le-mul_right}
use Prim.Native.Nat.{ℕ, ◌+◌, ◌-◌, ◌*◌, ◌/◌, ◌≤◌, ◌<◌}
use Rattle.std.proofs.Math.Nat.{div-eq_of_lt-le, div-mul-le_self, lt-div-mul-add}
use native.Mathlib.{Nat.lt_of_mul-lt-mul_right, Nat.mul-le-mul, Nat.mul-le-mul_right, Omega.arith}

-- a step of d / n in parts, rounded up and rounded down
unfoldable pub step_up : ℕ → ℕ → ℕ
step_up d n = (d * 4294967296 + (n - 1)) / n

unfoldable pub step_down : ℕ → ℕ → ℕ
step_down d n = d * 4294967296 / n

-- k of n steps, rounded down and rounded up
unfoldable pub floored : ℕ → ℕ → ℕ → ℕ
floored k d n = k * d / n

unfoldable pub ceiled : ℕ → ℕ → ℕ → ℕ
ceiled k d n = (k * d + (n - 1)) / n

module _ (d n k : ℕ) (some : 0 < n) where
  -- what makes a number k steps rounded down, and rounded up
  pub floored_is : (floored k d n * n ≤ k * d) × (k * d < floored k d n * n + n)
  unfolding floored
  floored_is = (div-mul-le_self (k * d) n, lt-div-mul-add some)

  pub ceiled_is : (k * d ≤ ceiled k d n * n) × (ceiled k d n * n < k * d + n)
  unfolding ceiled
  ceiled_is =
      let h : (k * d + (n - 1)) / n * n ≤ k * d + (n - 1) = div-mul-le_self (k * d + (n - 1)) n in
      let m : k * d + (n - 1) < (k * d + (n - 1)) / n * n + n = lt-div-mul-add some in
      (omega arith, omega arith)

module _ (d n k : ℕ) (some : 0 < n) (most : n ≤ 65536) (among : k ≤ n) where
  -- a fault of e parts in n steps, k times
  fault : (e : ℕ) → e < n → k * e < 4294967296
  fault e l =
      let p : k * e ≤ n * e = mul-le-mul_right e among in
      let r : e + 1 ≤ 65536 = omega arith in
      let q : n * (e + 1) ≤ 65536 * 65536 = mul-le-mul most r in
      omega arith

  -- k steps of f parts, where n of them are e parts too many
  over : (f e m : ℕ) → f * n ≡ d * 4294967296 + e → e < n → m * n ≤ k * d → k * d < m * n + n
      → (m * 4294967296 ≤ k * f) × (k * f < m * 4294967296 + 4294967296)
  over f e m q l lo hi =
      let z : k * (f * n) ≡ k * (d * 4294967296 + e) = ap (λ (x : ℕ). k * x) q in
      let p : k * e < 4294967296 = fault e l in
      let a : m * 4294967296 * n ≤ k * f * n = omega arith in
      let b : k * f * n < (m * 4294967296 + 4294967296) * n = omega arith in
      (le_of_mul-le-mul_right a some, lt_of_mul-lt-mul_right n b)

  -- and too few
  under : (f e m : ℕ) → f * n + e ≡ d * 4294967296 → e < n → k * d ≤ m * n → m * n < k * d + n
      → (k * f ≤ m * 4294967296) × (m * 4294967296 < k * f + 4294967296)
  under f e m q l lo hi =
      let z : k * (f * n + e) ≡ k * (d * 4294967296) = ap (λ (x : ℕ). k * x) q in
      let p : k * e < 4294967296 = fault e l in
      let a : k * f * n ≤ m * 4294967296 * n = omega arith in
      let b : m * 4294967296 * n < (k * f + 4294967296) * n = omega arith in
      (le_of_mul-le-mul_right a some, lt_of_mul-lt-mul_right n b)

  -- THE LAWS: k steps, each rounded up, give k steps rounded down
  pub steps_floored : (floored k d n * 4294967296 ≤ k * step_up d n)
      × (k * step_up d n < floored k d n * 4294967296 + 4294967296)
  unfolding step_up
  steps_floored =
      let x : ℕ = d * 4294967296 + (n - 1) in
      let h : x / n * n ≤ x = div-mul-le_self x n in
      let m : x < x / n * n + n = lt-div-mul-add some in
      over (x / n) (x / n * n - d * 4294967296) (floored k d n) (omega arith) (omega arith)
      (floored_is d n k some).0 (floored_is d n k some).1

  -- and each rounded down give k steps rounded up
  pub steps_ceiled : (k * step_down d n ≤ ceiled k d n * 4294967296)
      × (ceiled k d n * 4294967296 < k * step_down d n + 4294967296)
  unfolding step_down
  steps_ceiled =
      let x : ℕ = d * 4294967296 in
      let h : x / n * n ≤ x = div-mul-le_self x n in
      let m : x < x / n * n + n = lt-div-mul-add some in
      under (x / n) (x - x / n * n) (ceiled k d n) (omega arith) (omega arith) (ceiled_is d n k some).0
      (ceiled_is d n k some).1

-- m wholes
wholes : (p m : ℕ) → m * 4294967296 ≤ p → p < m * 4294967296 + 4294967296 → p / 4294967296 ≡ m
wholes p m l h = div-eq_of_lt-le 4294967296 l (omega arith)

module _ (v d n k : ℕ) (some : 0 < n) (most : n ≤ 65536) (among : k ≤ n) where
  -- so many steps, rounded down and rounded up
  pub climb_floored : (v * 4294967296 + k * step_up d n) / 4294967296 ≡ v + floored k d n
  climb_floored =
      let s = steps_floored d n k some most among in
      wholes _ _ (omega (arith, s.0)) (omega (arith, s.1))

  pub climb_ceiled : (v * 4294967296 + 4294967295 + k * step_down d n) / 4294967296 ≡ v + ceiled k d n
  climb_ceiled =
      let s = steps_ceiled d n k some most among in
      wholes _ _ (omega (arith, s.0)) (omega (arith, s.1))
