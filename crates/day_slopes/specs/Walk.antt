-- A line with a new value at each tick, walked by equal steps: on a rising piece they are added, on a falling
-- one taken off, in parts of which 4,294,967,296 make a whole. Rounded up, it starts one part short of the
-- next whole, and a rising piece takes `step_down`, a falling one `step_up`.
use Rattle.std.specs.Prelude.{◌≡◌, ℕ, ◌+◌, ◌-◌, ◌*◌, ◌/◌, ◌≤◌, ◌<◌}
use Rattle.std.proofs.Math.Path.{sym}
use Rattle.std.proofs.Common.{◌∙◌, le_of_lt, div-lt_iff_lt-mul}
use Rattle.std.proofs.Math.Nat.{mul-le-mul_right, div-mul-le_self, div-eq_of_lt-le}
use native.Mathlib.Omega.{arith}
use mir.{Val.Fits, Syntax.w64}
use Rattle.theory_travel.specs.{Pieces.line_at, Line.line_rising, Line.line_falling}
use Rattle.travel_runs.specs.Fixed.{step_up, step_down, floored, ceiled, climb_ceiled}
use Rattle.travel_runs.specs.Fixed.{steps_floored}

-- the parts at tick x, of a walk that starts at tick a
unfoldable pub climbing : ℕ → ℕ → ℕ → ℕ → ℕ
climbing start step a x = start + (x - a) * step

unfoldable pub sinking : ℕ → ℕ → ℕ → ℕ → ℕ
sinking start step a x = start - (x - a) * step

-- and the wholes
unfoldable pub climbed : ℕ → ℕ → ℕ → ℕ → ℕ
climbed start step a x = climbing start step a x / 4294967296

unfoldable pub sunk : ℕ → ℕ → ℕ → ℕ → ℕ
sunk start step a x = sinking start step a x / 4294967296

-- m wholes
wholes : (p m : ℕ) → m * 4294967296 ≤ p → p < m * 4294967296 + 4294967296 → p / 4294967296 ≡ m
wholes p m l h = div-eq_of_lt-le 4294967296 l (omega arith)

module _ (v d n k : ℕ) (some : 0 < n) (most : n ≤ 65536) (among : k ≤ n) where
  sink_floored : floored k d n ≤ v
      → (v * 4294967296 + 4294967295 - k * step_up d n) / 4294967296 ≡ v - floored k d n
  sink_floored l =
      let s = steps_floored d n k some most among in
      let z : v - floored k d n + floored k d n ≡ v = omega arith in
      wholes _ _ (omega (arith, s.0)) (omega (arith, s.1))

module _ (x a v b w : ℕ) (from : a ≤ x) (to : x < b) (most : b ≤ 65536) where
  pub line_climbed : v ≤ w
      → climbed (v * 4294967296 + 4294967295) (step_down (w - v) (b - a)) a x ≡ line_at a v b w x
  unfolding climbed climbing line_at ceiled
  line_climbed h =
      climb_ceiled v (w - v) (b - a) (x - a) (omega arith) (omega arith) (omega arith) ∙ sym
      (line_rising x a v b w from to h)

  drop_most : w ≤ v → floored (x - a) (v - w) (b - a) ≤ v
  unfolding floored
  drop_most h =
      let some : 0 < b - a = omega arith in
      let e : x - a ≤ b - a = omega arith in
      let p : (x - a) * (v - w) ≤ (b - a) * (v - w) = mul-le-mul_right (v - w) e in
      let q : (x - a) * (v - w) / (b - a) < v - w + 1 = (div-lt_iff_lt-mul some).1 (omega arith) in
      omega arith

  pub line_sunk : w ≤ v
      → sunk (v * 4294967296 + 4294967295) (step_up (v - w) (b - a)) a x ≡ line_at a v b w x
  unfolding sunk sinking line_at floored
  line_sunk h =
      sink_floored v (v - w) (b - a) (x - a) (omega arith) (omega arith) (omega arith) (drop_most h) ∙ sym
      (line_falling x a v b w from to h)

-- it stays in 64 bits up to its end, and above nothing
module _ (a v b w : ℕ) (some : a < b) (most : b ≤ 65536) (narrow : v < 4294967296) (narrow' : w < 4294967296)
  where
    pub climb_room : v ≤ w
        → climbing (v * 4294967296 + 4294967295) (step_down (w - v) (b - a)) a b < 18446744073709551616
    unfolding climbing step_down
    climb_room h =
        let p : (w - v) * 4294967296 / (b - a) * (b - a) ≤ (w - v) * 4294967296 = div-mul-le_self _ (b - a) in
        omega arith

    pub sink_room : w ≤ v → (b - a) * step_up (v - w) (b - a) ≤ v * 4294967296 + 4294967295
    unfolding step_up
    sink_room h =
        let p : ((v - w) * 4294967296 + (b - a - 1)) / (b - a) * (b - a) ≤ (v - w) * 4294967296 + (b - a - 1)
        =
        div-mul-le_self _ (b - a) in
        omega arith

-- where the walk of a whole piece starts, and its step, as they were worked out
module _ (a v b w start step : ℕ) (some : a < b) (most : b ≤ 65536)
    (begun : start ≡ v * 4294967296 + 4294967295) where
  module _ (h : v ≤ w) (is : step ≡ step_down (w - v) (b - a)) where
    pub climb_may : v < 4294967296 → w < 4294967296 → climbing start step a b < 18446744073709551616
    climb_may n m = rw (begun, is) (climb_room a v b w some most n m h)

  module _ (h : w < v) (is : step ≡ step_up (v - w) (b - a)) where
    pub sink_may : v < 4294967296 → w < 4294967296 → (b - a) * step ≤ start
    sink_may n m = rw (begun, is) (sink_room a v b w some most n m (le_of_lt h))

-- FOR THE LOOPS, which hold the parts p at tick x
module _ (start step a : ℕ) where
  pub climb_start : start ≡ climbing start step a a
  unfolding climbing
  climb_start = let e : a - a ≡ 0 = omega arith in rw e (omega arith)

  pub sink_start : start ≡ sinking start step a a
  unfolding sinking
  sink_start = let e : a - a ≡ 0 = omega arith in rw e (omega arith)

  more : (x : ℕ) → a ≤ x → (x + 1 - a) * step ≡ (x - a) * step + step
  more x l = let e : x + 1 - a ≡ x - a + 1 = omega arith in rw e (omega arith)

  module _ (p x b : ℕ) (l : a ≤ x) (h : x < b) where
    most_steps : (x - a) * step + step ≤ (b - a) * step
    most_steps = let e : x - a + 1 ≤ b - a = omega arith in omega (arith, mul-le-mul_right step e)

    pub climb_next : p ≡ climbing start step a x → p + step ≡ climbing start step a (x + 1)
    unfolding climbing
    climb_next e = omega (arith, more x l)

    pub climb_fits : climbing start step a b < 18446744073709551616 → p ≡ climbing start step a x
        → Fits w64 (p + step)
    unfolding climbing
    climb_fits r e = omega (arith, most_steps)

    pub climb_entry : (r : ℕ) → r ≡ p / 4294967296 → p ≡ climbing start step a x → r ≡ climbed start step a x
    unfolding climbed
    climb_entry r q e = q ∙ rw e

    pub sink_next : (b - a) * step ≤ start → p ≡ sinking start step a x
        → p - step ≡ sinking start step a (x + 1)
    unfolding sinking
    sink_next r e = omega (arith, more x l, most_steps)

    pub sink_fits : (b - a) * step ≤ start → p ≡ sinking start step a x → step ≤ p
    unfolding sinking
    sink_fits r e = omega (arith, most_steps)

    pub sink_entry : (r : ℕ) → r ≡ p / 4294967296 → p ≡ sinking start step a x → r ≡ sunk start step a x
    unfolding sunk
    sink_entry r q e = q ∙ rw e

-- for `search walks` at the needs of the loops
pub ruleset walks =
    (climb_start, climb_next, climb_fits, climb_entry, sink_start, sink_next, sink_fits, sink_entry)
