-- The rule for the ticks of points, as a test at each of them: the first is 0, each later one rises, and all
-- are below the period. No tick is bad exactly where they are a day's (`ticks_day`).
use mathlib.Core.{Path.◌≡◌, Logic.◌↔◌, Bool.Bool, Bool.false, Bool.not, Bool.◌||◌}
use Prim.Native.Nat.{ℕ, zero, suc, ◌<◌}
use Rattle.std.specs.Prelude.{leb, eqb}
use borrow.Author.Tests.{leb-false, eqb-true, not-false, lt-leb, eq-eqb}
use Rattle.theory_loops.specs.Pick.{or_passed}
use Rattle.theory_travel.specs.Day.{Day}

unfoldable pub bad_tick : ℕ → (ℕ → ℕ) → ℕ → Bool
bad_tick period t zero = not (eqb (t 0) 0) || leb period (t 0)
bad_tick period t (suc i) = leb (t (suc i)) (t i) || leb period (t (suc i))

module _ (period : ℕ) (t : ℕ → ℕ) where
  -- a tick that is not bad: its first half, and that it is below the period
  first_fine : bad_tick period t 0 ≡ false → (t 0 ≡ 0) × (t 0 < period)
  unfolding bad_tick
  first_fine e =
      let (z, b) = or_passed (not (eqb (t 0) 0)) (leb period (t 0)) e in
      (eqb-true (t 0) 0 (not-false _ z), leb-false period (t 0) b)

  later_fine : (i : ℕ) → bad_tick period t (suc i) ≡ false → (t i < t (suc i)) × (t (suc i) < period)
  unfolding bad_tick
  later_fine i e =
      let (r, b) = or_passed (leb (t (suc i)) (t i)) (leb period (t (suc i))) e in
      (leb-false (t (suc i)) (t i) r, leb-false period (t (suc i)) b)

  fine_below : (i : ℕ) → bad_tick period t i ≡ false → t i < period
  fine_below zero e = (first_fine e).1
  fine_below (suc i) e = (later_fine i e).1

  -- a day's tick is not bad
  day_fine : (m : ℕ) → Day t m period → (i : ℕ) → i < m → bad_tick period t i ≡ false
  unfolding bad_tick
  day_fine m d zero l = rw (eq-eqb (t 0) 0 d.start) (lt-leb period (t 0) (d.below 0 l))
  day_fine m d (suc i) l =
      rw (lt-leb (t (suc i)) (t i) (d.rise i l)) (lt-leb period (t (suc i)) (d.below (suc i) l))

  pub ticks_day : (m : ℕ) → 0 < m → ((i : ℕ) → i < m → bad_tick period t i ≡ false) ↔ Day t m period
  ticks_day m some = (
    λ h. record {
      some = some;
      start = (first_fine (h 0 some)).0;
      rise = λ i l. (later_fine i (h (suc i) l)).0;
      below = λ i l. fine_below i (h i l);
    },
    day_fine m,
  )
