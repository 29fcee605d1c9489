-- The runs of a line that rises or falls by its ticks or more, one for each tick: the laws of the loops.
use mathlib.Core.{Path.◌≡◌, Path.◌∙◌, List.List}
use Rattle.std.specs.Prelude.{ℕ, ◌+◌, ◌-◌, ◌*◌, ◌≤◌, ◌<◌, set}
use Rattle.std.proofs.Common.{arith}
use Rattle.theory_travel.specs.Pieces.{line_at}
use Rattle.travel_runs.specs.{Fixed.step_up, Fixed.step_down, Runs.value_first}
use Rattle.day_slopes.specs.Held.{Added, Held, Room, held_start, held_put, held_next}
use Rattle.day_slopes.specs.Walk.{climbed, sunk, line_climbed, line_sunk}

module _ {s₀ v₀ : List ℕ} {n a b : ℕ} (room : Room s₀ v₀ n a b) where
  module _ (v w start step : ℕ) (begun : start ≡ v * 4294967296 + 4294967295) where
    pub steep_start : Held s₀ v₀ s₀ v₀ n (n + (a - a)) a v a (line_at a v b w a) (line_at a v b w)
    steep_start =
        let i : n + (a - a) ≡ n = omega arith in
        rw (i, value_first a v b w room.apart) (held_start room v _)

    module _ (s vs s' v' : List ℕ) (x r : ℕ)
        (p : Held s₀ v₀ s vs n (n + (x - a)) a v x (line_at a v b w x) (line_at a v b w)) (l : a ≤ x)
        (m : x < b) where
      steep_more : r ≡ line_at a v b w x → s' ≡ set s (n + (x - a) + 1) (x + 1) → v' ≡ set vs (n + (x - a)) r
          → Held s₀ v₀ s' v' n (n + (x + 1 - a)) a v (x + 1) (line_at a v b w (x + 1)) (line_at a v b w)
      steep_more e es ev =
          let i : n + (x + 1 - a) ≡ n + (x - a) + 1 = omega arith in
          rw i
          (held_next room s vs s' v' (n + (x - a)) x v (x + 1) _ _ _ p es (ev ∙ rw e) l (omega arith)
          (omega arith)
          (λ y lo hi. let q : y ≡ x = omega arith in rw q))

      steep_last : r ≡ line_at a v b w x → b ≡ x + 1 → s' ≡ set s (n + (x - a) + 1) b
          → v' ≡ set vs (n + (x - a)) r → Added s₀ v₀ s' v' n (n + (b - a)) a v b (line_at a v b w)
      steep_last e z es ev =
          let i : n + (b - a) ≡ n + (x - a) + 1 = omega arith in
          rw i
          (held_put room s vs s' v' (n + (x - a)) x v b _ _ p es (ev ∙ rw e) l m (omega arith)
          (λ y lo hi. let q : y ≡ x = omega arith in rw q))

      climb_value : v ≤ w → step ≡ step_down (w - v) (b - a) → r ≡ climbed start step a x
          → r ≡ line_at a v b w x
      climb_value h is e = e ∙ rw (begun, is) (line_climbed x a v b w l m (omega (arith, room.last)) h)

      sink_value : w ≤ v → step ≡ step_up (v - w) (b - a) → r ≡ sunk start step a x → r ≡ line_at a v b w x
      sink_value h is e = e ∙ rw (begun, is) (line_sunk x a v b w l m (omega (arith, room.last)) h)

      module _ (h : v ≤ w) (is : step ≡ step_down (w - v) (b - a)) (e : r ≡ climbed start step a x) where
        pub climb_more : s' ≡ set s (n + (x - a) + 1) (x + 1) → v' ≡ set vs (n + (x - a)) r
            → Held s₀ v₀ s' v' n (n + (x + 1 - a)) a v (x + 1) (line_at a v b w (x + 1)) (line_at a v b w)
        climb_more es ev = steep_more (climb_value h is e) es ev

        pub climb_last : b ≡ x + 1 → s' ≡ set s (n + (x - a) + 1) b → v' ≡ set vs (n + (x - a)) r
            → Added s₀ v₀ s' v' n (n + (b - a)) a v b (line_at a v b w)
        climb_last z es ev = steep_last (climb_value h is e) z es ev

      module _ (h : w ≤ v) (is : step ≡ step_up (v - w) (b - a)) (e : r ≡ sunk start step a x) where
        pub sink_more : s' ≡ set s (n + (x - a) + 1) (x + 1) → v' ≡ set vs (n + (x - a)) r
            → Held s₀ v₀ s' v' n (n + (x + 1 - a)) a v (x + 1) (line_at a v b w (x + 1)) (line_at a v b w)
        sink_more es ev = steep_more (sink_value h is e) es ev

        pub sink_last : b ≡ x + 1 → s' ≡ set s (n + (x - a) + 1) b → v' ≡ set vs (n + (x - a)) r
            → Added s₀ v₀ s' v' n (n + (b - a)) a v b (line_at a v b w)
        sink_last z es ev = steep_last (sink_value h is e) z es ev
