-- The runs of ticks at which a line, rounded up, has one value: where each begins is itself a count of steps,
-- those of ticks to one unit of travel, so that one division serves the whole piece. A falling line has v - j
-- from its `ceiled`-th tick on, a rising one v + (j + 1) from after its `floored`-th.
use Rattle.std.specs.Prelude.{◌≡◌, ℕ, ◌+◌, ◌-◌, ◌*◌, ◌/◌, ◌≤◌, ◌<◌}
use Rattle.std.proofs.Common.{◌∙◌, lt_of_mul-lt-mul_right, le_of_lt}
use Rattle.std.proofs.Math.Path.{ap}
use Rattle.std.proofs.Math.Nat.{div-eq_of_lt-le, mul-le-mul_right}
use native.Mathlib.Omega.{arith}
use Rattle.theory_travel.specs.{Line.line_first, Line.line_rising, Line.line_falling, Pieces.line_at}
use Rattle.travel_runs.specs.Fixed.{floored, ceiled, floored_is, ceiled_is}

-- WHERE RUNS BEGIN, d of them in n ticks
module _ (n d : ℕ) (some : 0 < d) where
  pub ceiled_none : ceiled 0 n d ≡ 0
  ceiled_none =
      let s = ceiled_is n d 0 some in
      let l : ceiled 0 n d < 1 = lt_of_mul-lt-mul_right d (omega (arith, s.1)) in
      omega arith

  pub ceiled_more : (j : ℕ) → ceiled j n d ≤ ceiled (j + 1) n d
  ceiled_more j =
      let l : ceiled j n d < ceiled (j + 1) n d + 1 =
      lt_of_mul-lt-mul_right d (omega (arith, (ceiled_is n d j some).1, (ceiled_is n d (j + 1) some).0)) in
      omega arith

  pub ceiled_most : (j : ℕ) → j ≤ d → ceiled j n d ≤ n
  ceiled_most j h =
      let m : j * n ≤ d * n = mul-le-mul_right n h in
      let l : ceiled j n d < n + 1 = lt_of_mul-lt-mul_right d (omega (arith, (ceiled_is n d j some).1)) in
      omega arith

  pub ceiled_all : ceiled d n d ≡ n
  ceiled_all =
      let l : n < ceiled d n d + 1 = lt_of_mul-lt-mul_right d (omega (arith, (ceiled_is n d d some).0)) in
      omega (arith, ceiled_most d (omega arith))

  pub floored_none : floored 0 n d ≡ 0
  floored_none =
      let l : floored 0 n d < 1 = lt_of_mul-lt-mul_right d (omega (arith, (floored_is n d 0 some).0)) in
      omega arith

  pub floored_more : (j : ℕ) → floored j n d ≤ floored (j + 1) n d
  floored_more j =
      let l : floored j n d < floored (j + 1) n d + 1 =
      lt_of_mul-lt-mul_right d (omega (arith, (floored_is n d j some).0, (floored_is n d (j + 1) some).1))
      in
      omega arith

  pub floored_most : (j : ℕ) → 0 < n → j < d → floored j n d < n
  floored_most j o h =
      let m : (j + 1) * n ≤ d * n = mul-le-mul_right n (omega arith) in
      lt_of_mul-lt-mul_right d (omega (arith, (floored_is n d j some).0))

-- THE VALUE OF A RUN
module _ (x a v b w j : ℕ) (from : a ≤ x) (to : x < b) where
  pub falling_value : w < v → a + ceiled j (b - a) (v - w) ≤ x → x < a + ceiled (j + 1) (b - a) (v - w)
      → line_at a v b w x ≡ v - j
  unfolding line_at
  falling_value h lo hi =
      let some : 0 < v - w = omega arith in
      let p : ceiled j (b - a) (v - w) * (v - w) ≤ (x - a) * (v - w) =
      mul-le-mul_right (v - w) (omega arith) in
      let q : (x - a + 1) * (v - w) ≤ ceiled (j + 1) (b - a) (v - w) * (v - w) =
      mul-le-mul_right (v - w) (omega arith) in
      let e : (x - a) * (v - w) / (b - a) ≡ j =
      div-eq_of_lt-le (b - a) (omega (arith, (ceiled_is (b - a) (v - w) j some).0))
      (omega (arith, (ceiled_is (b - a) (v - w) (j + 1) some).1)) in
      line_falling x a v b w from to (le_of_lt h) ∙ ap (λ (m : ℕ). v - m) e

  pub rising_value : v < w → a + 1 + floored j (b - a) (w - v) ≤ x → (x - a) * (w - v) ≤ (j + 1) * (b - a)
      → line_at a v b w x ≡ v + (j + 1)
  unfolding line_at
  rising_value h lo hi =
      let some : 0 < w - v = omega arith in
      let p : (floored j (b - a) (w - v) + 1) * (w - v) ≤ (x - a) * (w - v) =
      mul-le-mul_right (w - v) (omega arith) in
      let e : ((x - a) * (w - v) + (b - a - 1)) / (b - a) ≡ j + 1 =
      div-eq_of_lt-le (b - a) (omega (arith, (floored_is (b - a) (w - v) j some).1)) (omega arith) in
      line_rising x a v b w from to (le_of_lt h) ∙ ap (λ (m : ℕ). v + m) e

  -- up to where the next run begins
  pub rising_run : v < w → a + 1 + floored j (b - a) (w - v) ≤ x
      → x < a + 1 + floored (j + 1) (b - a) (w - v) → line_at a v b w x ≡ v + (j + 1)
  rising_run h lo hi =
      let some : 0 < w - v = omega arith in
      let p : (x - a) * (w - v) ≤ floored (j + 1) (b - a) (w - v) * (w - v) =
      mul-le-mul_right (w - v) (omega arith) in
      rising_value h lo (omega (arith, (floored_is (b - a) (w - v) (j + 1) some).0))

  -- and the last one up to the piece's end
  pub rising_last : v < w → j + 1 ≡ w - v → a + 1 + floored j (b - a) (w - v) ≤ x → line_at a v b w x ≡ w
  rising_last h e lo =
      let p : (x - a) * (w - v) ≤ (b - a) * (w - v) = mul-le-mul_right (w - v) (omega arith) in
      rising_value h lo (rw e (omega arith)) ∙ omega arith

-- at its first tick, and where it does not change
pub value_first : (a v b w : ℕ) → a < b → line_at a v b w a ≡ v
unfolding line_at
value_first a v b w h = line_first a v b w h

pub value_flat : (x a v b : ℕ) → a ≤ x → x < b → line_at a v b v x ≡ v
unfolding line_at
value_flat x a v b from to =
    let e : v - v ≡ 0 = omega arith in
    let f : (x - a) * (v - v) / (b - a) ≡ 0 = div-eq_of_lt-le (b - a) (omega arith) (rw e (omega arith)) in
    line_falling x a v b v from to (omega arith) ∙ omega arith
