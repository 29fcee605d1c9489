-- A piece of an arc's line lowered run by run: what the loops hold, and their laws.
use mathlib.Core.{Path.◌≡◌, Path.refl, Path.sym, Path.◌∙◌, Path.ap, Bool.Bool, List.List}
use Rattle.std.specs.Prelude.{ℕ, ◌+◌, ◌-◌, ◌*◌, ◌/◌, ◌≤◌, ◌<◌}
use native.Mathlib.{Nat.mul-le-mul_right, Nat.div-mul-le_self, Omega.arith}
use mir.{Val.Fits, Syntax.w64}
use Rattle.travel_runs.specs.Fixed.{step_up, step_down, floored, ceiled}
use Rattle.theory_travel.specs.Pieces.{line_at}
use Rattle.travel_runs.specs.{Fixed.climb_floored, Fixed.climb_ceiled, Runs.value_first, Runs.value_flat}
use Rattle.toward_row.specs.Cut.{Cut, cut_none}
use Rattle.toward_row.specs.Lower.{entries, always, lowered, Ready, lower_join, lower_as}
use Rattle.travel_runs.specs.Runs.{ceiled_none, ceiled_more, ceiled_most, ceiled_all, floored_none}
use Rattle.travel_runs.specs.Runs.{floored_more, floored_most, falling_value, rising_run, rising_last}

-- On a falling line run j begins at tick x.
pub record FallingAt (a v b w step parts x j : ℕ) : Type 0 where
  pub held : parts ≡ 4294967295 + j * step
  pub at : x ≡ a + ceiled j (b - a) (v - w)

-- On a rising line the run after run j does.
pub record RisingAt (a v b w step parts x j : ℕ) : Type 0 where
  pub held : parts ≡ j * step
  pub at : x ≡ a + 1 + floored j (b - a) (w - v)

module _ {first : Bool} {hs old : List ℕ} {period a v b w : ℕ} (r : Ready first hs old period a v b w) where
  -- FALLING
  module _ (h : w < v) where
    pub fall_start : {step : ℕ} → FallingAt a v b w step 4294967295 a 0
    fall_start = record { held = omega arith; at = omega (arith, ceiled_none (b - a) (v - w) (omega arith)) }

    pub fall_end : {step parts x j n : ℕ} {new : List ℕ} (f : ℕ → ℕ) → FallingAt a v b w step parts x j
        → j ≤ v - w → v - w ≤ j → Cut first a x f old new n → Cut first a b f old new n
    fall_end {x = x} {j = j} f s l m p =
        let q : j ≡ v - w = omega arith in
        let z : x ≡ b =
        omega (
          arith,
          r.apart,
          s.at,
          ap (λ (i : ℕ). ceiled i (b - a) (v - w)) q,
          ceiled_all (b - a) (v - w) (omega arith),
        ) in
        rw z at p

    module _ {step parts x j : ℕ} (is : step ≡ step_down (b - a) (v - w))
        (s : FallingAt a v b w step parts x j) (l : j < v - w) where
      fall_steps : (j + 1) * step ≤ (b - a) * 4294967296
      unfolding step_down
      fall_steps =
          let p : (b - a) * 4294967296 / (v - w) * (v - w) ≤ (b - a) * 4294967296 =
          div-mul-le_self _ (v - w) in
          let q : (j + 1) * step ≤ (v - w) * step = mul-le-mul_right step (omega arith) in
          let e : (v - w) * step ≡ (b - a) * 4294967296 / (v - w) * (v - w) = rw is (omega arith) in
          omega arith

      pub fall_fits : Fits w64 (parts + step)
      fall_fits = omega (arith, fall_steps, s.held, r.within, r.short)

      module _ {k : ℕ} (e : k ≡ (parts + step) / 4294967296) where
        fall_k : k ≡ ceiled (j + 1) (b - a) (v - w)
        fall_k =
            let z : parts + step ≡ 0 * 4294967296 + 4294967295 + (j + 1) * step_down (b - a) (v - w) =
            rw (← is) (omega (arith, s.held)) in
            e
            ∙ ap (λ (i : ℕ). i / 4294967296) z
            ∙ climb_ceiled 0 (b - a) (v - w) (j + 1) (omega arith) (omega (arith, r.first_most, r.short))
            (omega arith)
            ∙ omega arith

        pub fall_next : FallingAt a v b w step (parts + step) (a + k) (j + 1)
        fall_next = record { held = omega (arith, s.held); at = omega (arith, fall_k) }

        pub fall_rises : x ≤ a + k
        fall_rises = omega (arith, fall_k, s.at, ceiled_more (b - a) (v - w) (omega arith) j)

        pub fall_within : a + k ≤ b
        fall_within =
            omega (arith, fall_k, r.apart, ceiled_most (b - a) (v - w) (omega arith) (j + 1) (omega arith))

        pub fall_run : {mid new : List ℕ} {m n : ℕ}
            → Cut first a x (lowered first (line_at a v b w) (entries hs) period old) old mid m
            → Cut first x (a + k) (lowered first (always (v - j)) (entries hs) period mid) mid new n
            → Cut first a (a + k) (lowered first (line_at a v b w) (entries hs) period old) old new (m + n)
        unfolding always
        fall_run {mid} {new} {m} {n} p q =
            lower_join (entries hs) period _ _ old mid new a x (a + k) m n p q (omega (arith, s.at))
            fall_rises
            (λ y lo hi.
            sym
            (falling_value y a v b w j (omega (arith, s.at)) (omega (arith, fall_within)) h
            (omega (arith, s.at)) (omega (arith, fall_k))))

  -- RISING
  module _ (h : v < w) where
    pub rise_first : {new : List ℕ} {n : ℕ}
        → Cut first a (a + 1) (lowered first (always v) (entries hs) period old) old new n
        → Cut first a (a + 1) (lowered first (line_at a v b w) (entries hs) period old) old new n
    unfolding always
    rise_first {new} {n} p =
        lower_as (entries hs) period _ _ old new a (a + 1) n
        (λ y lo hi. let e : y ≡ a = omega arith in rw e (sym (value_first a v b w r.apart))) p

    pub rise_start : {step : ℕ} → RisingAt a v b w step 0 (a + 1) 0
    rise_start = record { held = omega arith; at = omega (arith, floored_none (b - a) (w - v) (omega arith)) }

    module _ {step parts x j : ℕ} (s : RisingAt a v b w step parts x j) where
      pub rise_still : j ≤ w - v - 1 → x ≤ b
      rise_still l =
          omega (
            arith,
            s.at,
            r.apart,
            floored_most (b - a) (w - v) (omega arith) j (omega (arith, r.apart)) (omega arith),
          )

      pub rise_end : j ≤ w - v - 1 → w - v - 1 ≤ j → {base mid new : List ℕ} {o i n : ℕ}
          → Cut first a (a + 1) (lowered first (always v) (entries hs) period old) old base o
          → Cut first (a + 1) x (lowered first (line_at a v b w) (entries hs) period base) base mid i
          → Cut first x b (lowered first (always w) (entries hs) period mid) mid new n
          → Cut first a b (lowered first (line_at a v b w) (entries hs) period old) old new (o + (i + n))
      unfolding always
      rise_end l m {base} {mid} {new} {o} {i} {n} f p q =
          let g =
          lower_join (entries hs) period _ _ base mid new (a + 1) x b i n p q (omega (arith, s.at))
          (rise_still l)
          (λ y lo hi.
          sym (rising_last y a v b w j (omega (arith, s.at)) hi h (omega arith) (omega (arith, s.at))))
          in
          lower_join (entries hs) period _ _ old base new a (a + 1) b o (i + n) (rise_first f) g (omega arith)
          (omega (arith, r.apart)) (λ y lo hi. refl)

      module _ (is : step ≡ step_up (b - a) (w - v)) (l : j < w - v - 1) where
        rise_steps : (j + 1) * step ≤ (b - a) * 4294967296 + (w - v - 1)
        unfolding step_up
        rise_steps =
            let p : ((b - a) * 4294967296 + (w - v - 1)) / (w - v) * (w - v) ≤ (b - a) * 4294967296
            + (w - v - 1) = div-mul-le_self _ (w - v) in
            let q : (j + 1) * step ≤ (w - v) * step = mul-le-mul_right step (omega arith) in
            let e : (w - v) * step ≡ ((b - a) * 4294967296 + (w - v - 1)) / (w - v) * (w - v) =
            rw is (omega arith) in
            omega arith

        pub rise_fits : Fits w64 (parts + step)
        rise_fits = omega (arith, rise_steps, s.held, r.within, r.short, r.last_most)

        module _ {k : ℕ} (e : k ≡ (parts + step) / 4294967296) where
          rise_k : k ≡ floored (j + 1) (b - a) (w - v)
          rise_k =
              let z : parts + step ≡ 0 * 4294967296 + (j + 1) * step_up (b - a) (w - v) =
              rw (← is) (omega (arith, s.held)) in
              e
              ∙ ap (λ (i : ℕ). i / 4294967296) z
              ∙ climb_floored 0 (b - a) (w - v) (j + 1) (omega arith) (omega (arith, r.last_most, r.short))
              (omega arith)
              ∙ omega arith

          pub rise_next : RisingAt a v b w step (parts + step) (a + 1 + k) (j + 1)
          rise_next = record { held = omega (arith, s.held); at = omega (arith, rise_k) }

          pub rise_rises : x ≤ a + 1 + k
          rise_rises = omega (arith, rise_k, s.at, floored_more (b - a) (w - v) (omega arith) j)

          pub rise_within : a + 1 + k ≤ b
          rise_within =
              omega (
                arith,
                rise_k,
                r.apart,
                floored_most (b - a) (w - v) (omega arith) (j + 1) (omega (arith, r.apart)) (omega arith),
              )

          pub rise_run : {base mid new : List ℕ} {m n : ℕ}
              → Cut first (a + 1) x (lowered first (line_at a v b w) (entries hs) period base) base mid m
              → Cut first x (a + 1 + k) (lowered first (always (v + (j + 1))) (entries hs) period mid) mid
              new n
              → Cut first (a + 1) (a + 1 + k) (lowered first (line_at a v b w) (entries hs) period base) base
              new (m + n)
          unfolding always
          rise_run {base} {mid} {new} {m} {n} p q =
              lower_join (entries hs) period _ _ base mid new (a + 1) x (a + 1 + k) m n p q
              (omega (arith, s.at)) rise_rises
              (λ y lo hi.
              sym (rising_run y a v b w j (omega (arith, s.at)) (omega (arith, rise_within)) h
              (omega (arith, s.at)) (omega (arith, rise_k))))

  -- FLAT
  pub flat_run : v ≡ w → {new : List ℕ} {n : ℕ}
      → Cut first a b (lowered first (always v) (entries hs) period old) old new n
      → Cut first a b (lowered first (line_at a v b w) (entries hs) period old) old new n
  unfolding always
  flat_run e {new} {n} p =
      lower_as (entries hs) period _ _ old new a b n (λ y lo hi. rw (← e) (sym (value_flat y a v b lo hi))) p

-- for `search falls` at the needs of the loop
pub ruleset falls = (fall_start, fall_end, fall_fits, fall_next, fall_rises, fall_within, fall_run, cut_none)
