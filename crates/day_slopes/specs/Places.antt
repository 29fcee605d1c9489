-- Where the runs of a line begin, d of them in n ticks: no run is empty where there are at least as many
-- ticks as runs, and the last run of a rising line begins before the piece ends.
use Rattle.std.specs.Prelude.{ℕ, ◌+◌, ◌*◌, ◌≤◌, ◌<◌}
use native.Mathlib.{Nat.mul-le-mul_right, Nat.lt_of_mul-lt-mul_right, Omega.arith}
use Rattle.travel_runs.specs.Fixed.{floored, ceiled, floored_is, ceiled_is}

module _ (n d : ℕ) (some : 0 < d) where
  pub ceiled_apart : d ≤ n → (j : ℕ) → ceiled j n d < ceiled (j + 1) n d
  ceiled_apart h j =
      lt_of_mul-lt-mul_right d (omega (arith, (ceiled_is n d j some).1, (ceiled_is n d (j + 1) some).0))

  pub floored_apart : d ≤ n → (j : ℕ) → floored j n d < floored (j + 1) n d
  floored_apart h j =
      lt_of_mul-lt-mul_right d (omega (arith, (floored_is n d j some).0, (floored_is n d (j + 1) some).1))

  pub floored_short : d < n → (j : ℕ) → j < d → floored j n d + 1 < n
  floored_short h j l =
      let m : (j + 1) * n ≤ d * n = mul-le-mul_right n (omega arith) in
      lt_of_mul-lt-mul_right d (omega (arith, (floored_is n d j some).0))
