-- The runs of a line that rises by less than its ticks: the laws of the loop that puts them.
use mathlib.Core.{Path.◌≡◌, Path.◌∙◌, Path.ap, Path.subst, List.List}
use Prim.Native.Nat.{ℕ, zero, suc, ◌+◌, ◌-◌, ◌*◌, ◌/◌, ◌≤◌, ◌<◌}
use native.Mathlib.{Nat.mul-le-mul_right, Nat.div-mul-le_self, Numerals.add-one, Decide.dec_lt, Omega.arith}
use mir.{Val.Fits, Syntax.w64}
use Rattle.std.specs.Prelude.{set}
use Rattle.theory_travel.specs.Pieces.{line_at}
use Rattle.travel_runs.specs.Fixed.{step_up, floored, climb_floored}
use Rattle.travel_runs.specs.Runs.{floored_none, rising_run, rising_last, value_first}
use Rattle.day_slopes.specs.Held.{Held, Room, held_start, held_next, held_on}
use Rattle.day_slopes.specs.Places.{floored_apart, floored_short}

-- run i of a rising line begins at this tick of it
unfoldable pub risen : ℕ → ℕ → ℕ → ℕ
risen zero n d = 0
risen (suc j) n d = floored j n d + 1

pub risen_more : (j n d : ℕ) → risen (j + 1) n d ≡ floored j n d + 1
unfolding risen
risen_more j n d = rw (add-one j)

module _ {s₀ v₀ : List ℕ} {n a b : ℕ} (room : Room s₀ v₀ n a b) where
  module _ (v w step : ℕ) (h : v < w) (less : w - v < b - a) (is : step ≡ step_up (b - a) (w - v)) where
    rise_steps : (j : ℕ) → j ≤ w - v → j * step ≤ (b - a) * 4294967296 + (w - v - 1)
    unfolding step_up
    rise_steps j l =
        let p : ((b - a) * 4294967296 + (w - v - 1)) / (w - v) * (w - v) ≤ (b - a) * 4294967296 + (w - v - 1)
        = div-mul-le_self _ (w - v) in
        let q : j * step ≤ (w - v) * step = mul-le-mul_right step l in
        let e : (w - v) * step ≡ ((b - a) * 4294967296 + (w - v - 1)) / (w - v) * (w - v) =
        rw is (omega arith) in
        omega arith

    pub rise_fits : (j parts : ℕ) → parts ≡ j * step → j < w - v → Fits w64 (parts + step)
    rise_fits j parts e l = omega (arith, rise_steps (j + 1) (omega arith), room.last)

    rise_k : (j k parts : ℕ) → parts ≡ j * step → j ≤ w - v → k ≡ parts / 4294967296
        → k ≡ floored j (b - a) (w - v)
    rise_k j k parts z l e =
        let y : parts ≡ 0 * 4294967296 + j * step_up (b - a) (w - v) = rw (← is) (omega arith) in
        e
        ∙ ap (λ (i : ℕ). i / 4294967296) y
        ∙ climb_floored 0 (b - a) (w - v) j (omega arith) (omega (arith, room.last)) (omega arith)
        ∙ omega arith

    rise_most : (j : ℕ) → j < w - v → a + 1 + floored j (b - a) (w - v) < b
    rise_most j l = omega (arith, room.apart, floored_short (b - a) (w - v) (omega arith) less j l)

    pub rise_within : (j k parts : ℕ) → parts ≡ j * step → j < w - v → k ≡ parts / 4294967296 → a + 1 + k ≤ b
    rise_within j k parts z l e = omega (arith, rise_k j k parts z (omega arith) e, rise_most j l)

    pub rise_start : Held s₀ v₀ s₀ v₀ n (n + 0) a v (a + risen 0 (b - a) (w - v)) (v + 0) (line_at a v b w)
    unfolding risen
    rise_start =
        let o : a + 0 ≡ a = omega arith in
        let i : n + 0 ≡ n = omega arith in
        let j : v + 0 ≡ v = omega arith in
        rw (o, i, j) (held_start room v _)

    -- the value of run j
    rise_value : (j y : ℕ) → j ≤ w - v → a + risen j (b - a) (w - v) ≤ y → y < b
        → (j < w - v → y < a + 1 + floored j (b - a) (w - v)) → line_at a v b w y ≡ v + j
    unfolding risen
    rise_value zero y l lo hi u =
        let m = u (omega arith) in
        let e : y ≡ a = omega (arith, floored_none (b - a) (w - v) (omega arith)) in
        rw e (value_first a v b w room.apart ∙ omega arith)
    rise_value (suc j) y l lo hi u = elim (dec_lt (suc j) (w - v)) [
      | yes o ↦
          let m : y < a + 1 + floored (j + 1) (b - a) (w - v) = rw (add-one j) (u o) in
          rising_run y a v b w j (omega arith) hi h (omega arith) m ∙ omega arith
      | no o ↦ rising_last y a v b w j (omega arith) hi h (omega arith) (omega arith) ∙ omega arith
    ]

    risen_apart : (j : ℕ) → risen j (b - a) (w - v) < floored j (b - a) (w - v) + 1
    unfolding risen
    risen_apart zero = omega (arith, floored_none (b - a) (w - v) (omega arith))
    risen_apart (suc j) =
        let m : floored j (b - a) (w - v) < floored (suc j) (b - a) (w - v) =
        rw (← add-one j) (floored_apart (b - a) (w - v) (omega arith) (omega arith) j) in
        omega arith

    pub rise_below : (j : ℕ) → j ≤ w - v → a + risen j (b - a) (w - v) < b
    unfolding risen
    rise_below zero l = omega (arith, room.apart)
    rise_below (suc j) l = omega (arith, rise_most j (omega arith))

    module _ (s vs : List ℕ) (j : ℕ)
        (p : Held s₀ v₀ s vs n (n + j) a v (a + risen j (b - a) (w - v)) (v + j) (line_at a v b w)) where
      pub rise_more : (s' v' : List ℕ) (k parts : ℕ) → parts ≡ j * step → j < w - v → k ≡ parts / 4294967296
          → s' ≡ set s (n + j + 1) (a + 1 + k) → v' ≡ set vs (n + j) (v + j)
          → Held s₀ v₀ s' v' n (n + (j + 1)) a v (a + risen (j + 1) (b - a) (w - v)) (v + (j + 1))
          (line_at a v b w)
      rise_more s' v' k parts z l e es ev =
          let q : k ≡ floored j (b - a) (w - v) = rise_k j k parts z (omega arith) e in
          let i : n + (j + 1) ≡ n + j + 1 = omega arith in
          let o : a + 1 + k ≡ a + risen (j + 1) (b - a) (w - v) =
          omega (arith, risen_more j (b - a) (w - v)) in
          rw i
          (held_next room s vs s' v' (n + j) _ v _ (v + j) _ (v + (j + 1)) p (es ∙ rw o) ev (omega arith)
          (omega (arith, risen_apart j)) (omega (arith, rise_most j l))
          (λ y lo hi. rise_value j y (omega arith) lo (omega (arith, rise_most j l)) (λ _. omega arith)))

      -- the last run stays open
      pub rise_end : j ≤ w - v → w - v ≤ j → Held s₀ v₀ s vs n (n + (w - v)) a v b w (line_at a v b w)
      rise_end l m =
          let i : j ≡ w - v = omega arith in
          let u : v + j ≡ w = omega arith in
          let t =
          held_on room p (omega arith) (omega (arith, rise_below j l))
          (λ y lo hi. rise_value j y l lo hi (λ o. absurd (omega arith))) in
          subst (λ (k : ℕ). Held s₀ v₀ s vs n (n + k) a v b w (line_at a v b w)) i
          (subst (λ (k : ℕ). Held s₀ v₀ s vs n (n + j) a v b k (line_at a v b w)) u t)
