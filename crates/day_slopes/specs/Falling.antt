-- The runs of a line that falls by less than its ticks: the laws of the loop that puts them.
use mathlib.Core.{Path.◌≡◌, Path.◌∙◌, Path.ap, List.List}
use Rattle.std.specs.Prelude.{ℕ, ◌+◌, ◌-◌, ◌*◌, ◌/◌, ◌≤◌, ◌<◌, set}
use native.Mathlib.{Nat.mul-le-mul_right, Nat.div-mul-le_self, Omega.arith}
use mir.{Val.Fits, Syntax.w64}
use Rattle.theory_travel.specs.Pieces.{line_at}
use Rattle.travel_runs.specs.Fixed.{step_down, ceiled, climb_ceiled}
use Rattle.travel_runs.specs.Runs.{ceiled_none, ceiled_most, ceiled_all, falling_value}
use Rattle.day_slopes.specs.Held.{Added, Held, Room, held_start, held_put, held_next}
use Rattle.day_slopes.specs.Places.{ceiled_apart}

module _ {s₀ v₀ : List ℕ} {n a b : ℕ} (room : Room s₀ v₀ n a b) where
  module _ (v w step : ℕ) (h : w < v) (less : v - w < b - a) (is : step ≡ step_down (b - a) (v - w)) where
    fall_steps : (j : ℕ) → j ≤ v - w → j * step ≤ (b - a) * 4294967296
    unfolding step_down
    fall_steps j l =
        let p : (b - a) * 4294967296 / (v - w) * (v - w) ≤ (b - a) * 4294967296 = div-mul-le_self _ (v - w) in
        let q : j * step ≤ (v - w) * step = mul-le-mul_right step l in
        let e : (v - w) * step ≡ (b - a) * 4294967296 / (v - w) * (v - w) = rw is (omega arith) in
        omega arith

    pub fall_fits : (j parts : ℕ) → parts ≡ 4294967295 + j * step → j < v - w → Fits w64 (parts + step)
    fall_fits j parts e l = omega (arith, fall_steps (j + 1) (omega arith), room.last)

    fall_k : (j k parts : ℕ) → parts ≡ 4294967295 + j * step → j ≤ v - w → k ≡ parts / 4294967296
        → k ≡ ceiled j (b - a) (v - w)
    fall_k j k parts z l e =
        let y : parts ≡ 0 * 4294967296 + 4294967295 + j * step_down (b - a) (v - w) =
        rw (← is) (omega arith) in
        e
        ∙ ap (λ (i : ℕ). i / 4294967296) y
        ∙ climb_ceiled 0 (b - a) (v - w) j (omega arith) (omega (arith, room.last)) (omega arith)
        ∙ omega arith

    fall_most : (j : ℕ) → j ≤ v - w → a + ceiled j (b - a) (v - w) ≤ b
    fall_most j l = omega (arith, room.apart, ceiled_most (b - a) (v - w) (omega arith) j l)

    pub fall_within : (j k parts : ℕ) → parts ≡ 4294967295 + j * step → j ≤ v - w → k ≡ parts / 4294967296
        → a + k ≤ b
    fall_within j k parts z l e = omega (arith, fall_k j k parts z l e, fall_most j l)

    fall_value : (j y : ℕ) → j < v - w → a + ceiled j (b - a) (v - w) ≤ y
        → y < a + ceiled (j + 1) (b - a) (v - w) → line_at a v b w y ≡ v - j
    fall_value j y l lo hi =
        falling_value y a v b w j (omega arith) (omega (arith, fall_most (j + 1) (omega arith))) h lo hi

    pub fall_start : Held s₀ v₀ s₀ v₀ n (n + 0) a v (a + ceiled 0 (b - a) (v - w)) (v - 0) (line_at a v b w)
    fall_start =
        let o : a + ceiled 0 (b - a) (v - w) ≡ a = omega (arith, ceiled_none (b - a) (v - w) (omega arith)) in
        let i : n + 0 ≡ n = omega arith in
        let j : v - 0 ≡ v = omega arith in
        rw (o, i, j) (held_start room v _)

    pub fall_below : (j : ℕ) → j < v - w → a + ceiled j (b - a) (v - w) < b
    fall_below j l =
        omega (
          arith,
          ceiled_apart (b - a) (v - w) (omega arith) (omega arith) j,
          fall_most (j + 1)
              (omega arith),
        )

    module _ (s vs s' v' : List ℕ) (j : ℕ)
        (p : Held s₀ v₀ s vs n (n + j) a v (a + ceiled j (b - a) (v - w)) (v - j) (line_at a v b w)) where
      pub fall_more : (k parts : ℕ) → parts ≡ 4294967295 + j * step → j < v - w - 1
          → k ≡ (parts + step) / 4294967296 → s' ≡ set s (n + j + 1) (a + k)
          → v' ≡ set vs (n + j) (v - j)
          → Held s₀ v₀ s' v' n (n + (j + 1)) a v (a + ceiled (j + 1) (b - a) (v - w)) (v - (j + 1))
          (line_at a v b w)
      fall_more k parts z l e es ev =
          let q : k ≡ ceiled (j + 1) (b - a) (v - w) =
          fall_k (j + 1) k (parts + step) (omega arith) (omega arith) e in
          let i : n + (j + 1) ≡ n + j + 1 = omega arith in
          rw i
          (held_next room s vs s' v' (n + j) _ v _ (v - j) _ (v - (j + 1)) p (es ∙ rw q) ev (omega arith)
          (omega (arith, ceiled_apart (b - a) (v - w) (omega arith) (omega arith) j))
          (fall_most (j + 1) (omega arith))
          (λ y lo hi. fall_value j y (omega arith) lo hi))

      pub fall_end : j ≤ v - w - 1 → v - w - 1 ≤ j → s' ≡ set s (n + (v - w - 1) + 1) b
          → v' ≡ set vs (n + (v - w - 1)) (w + 1)
          → Added s₀ v₀ s' v' n (n + (v - w)) a v b (line_at a v b w)
      fall_end l m es ev =
          let i : v - w - 1 ≡ j = omega arith in
          let u : w + 1 ≡ v - j = omega arith in
          let o : n + (v - w) ≡ n + j + 1 = omega arith in
          let c : ceiled (j + 1) (b - a) (v - w) ≡ b - a =
          ap (λ (i : ℕ). ceiled i (b - a) (v - w)) (omega arith) ∙ ceiled_all (b - a) (v - w) (omega arith) in
          let es' = rw i at es in
          let ev' = rw (i, u) at ev in
          rw o
          (held_put room s vs s' v' (n + j) _ v b (v - j) _ p es' ev' (omega arith)
          (fall_below j (omega arith))
          (omega arith)
          (λ y lo hi. fall_value j y (omega arith) lo (omega (arith, room.apart))))
