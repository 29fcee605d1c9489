-- The points of a day that has a value at every tick: tick 0, and each later tick where the step to the next
-- tick differs from the step before it, the period's end counting as the next day's tick 0, and no other.
-- They are a day's points (`turns_day`), and by them the value at every tick is the one it was
-- (`turns_value`): between two of them the line meets every tick's value exactly, so rounding plays no part.
use Rattle.std.specs.Prelude.{◌≡◌, Bool, ◌||◌, ℕ, zero, suc, ◌+◌, ◌-◌, ◌*◌, ◌≤◌, ◌<◌}
use Rattle.std.proofs.Math.Path.{refl}
use Rattle.std.proofs.Common.{sym, ◌∙◌, ap, true≢false, eqb-true}
use Rattle.std.proofs.Math.Bool.{true, false, not}
use native.Mathlib.{Decide.dec_lt, Omega.arith}
use lib.{ListN.length, ListN.get_or, Dec.eqb}
use Rattle.theory_loops.specs.First.{first_same}
use Rattle.theory_loops.specs.Select.{select, Selected, selected, select_rises, rank_rises}
use Rattle.theory_loops.specs.Count.{count, count_none, count_select, count_few, counted_at, count_same}
use Rattle.theory_travel.specs.Line.{line, line_exact}
use Rattle.theory_travel.specs.Points.{Segment, segment, value, segment_is}
use Rattle.theory_travel.specs.Day.{Day, closed, closed_in, closed_end, day_value}

-- the value at tick x, where the period's end has the value of tick 0
abbrev pub around : (ℕ → ℕ) → ℕ → ℕ → ℕ
around f period x = closed period f (f 0) x

-- the step to the next tick is the step before: what stands on both sides adds up to twice the middle, so no
-- number is negative
abbrev pub straight : (ℕ → ℕ) → ℕ → ℕ → Bool
straight f period x = eqb (around f period (x - 1) + around f period (x + 1)) (f x + f x)

-- tick x, below the period, is a point
unfoldable pub turns : (ℕ → ℕ) → ℕ → ℕ → Bool
turns f period x = eqb x 0 || not (straight f period x)

-- how many points there are; the tick and the value of point i
unfoldable pub turn_count : (ℕ → ℕ) → ℕ → ℕ
turn_count f period = count period (turns f period)

unfoldable pub turn_tick : (ℕ → ℕ) → ℕ → ℕ → ℕ
turn_tick f period i = get_or (select period (turns f period)) i 0

abbrev pub turn_value : (ℕ → ℕ) → ℕ → ℕ → ℕ
turn_value f period i = f (turn_tick f period i)

-- ON A STRAIGHT PIECE: values f of which every step up to n is the one before it
module _ (f : ℕ → ℕ) (n : ℕ) (even : (i : ℕ) → suc i < n → f i + f (suc (suc i)) ≡ f (suc i) + f (suc i))
  where
    -- then every step is the first one
    steps : (i : ℕ) → i < n → f (suc i) + f 0 ≡ f i + f 1
    steps zero l = omega arith
    steps (suc i) l = omega (arith, even i l, steps i (omega arith))

    -- and i steps are i times the first
    climbed : (i : ℕ) → i ≤ n → f i + i * f 0 ≡ f 0 + i * f 1
    climbed zero l = omega arith
    climbed (suc i) l = omega (arith, climbed i (omega arith), steps i l)

    -- so the value after s of s + r steps is exactly on the line
    met : (s r : ℕ) → s + r ≡ n → f 0 * r + f n * s ≡ f s * (s + r)
    met s r e =
        let p : (f s + s * f 0) * (s + r) ≡ (f 0 + s * f 1) * (s + r) =
        ap (λ (k : ℕ). k * (s + r)) (climbed s (omega arith)) in
        let q : (f (s + r) + (s + r) * f 0) * s ≡ (f 0 + (s + r) * f 1) * s =
        ap (λ (k : ℕ). k * s) (climbed (s + r) (omega arith)) in
        rw (← e) (omega arith)

module _ (f : ℕ → ℕ) (a b : ℕ) (even : (y : ℕ) → a < y → y < b → f (y - 1) + f (y + 1) ≡ f y + f y) where
  even_from : (i : ℕ) → suc i < b - a → f (a + i) + f (a + suc (suc i)) ≡ f (a + suc i) + f (a + suc i)
  even_from i l =
      let p : a + suc i - 1 ≡ a + i = omega arith in
      let q : a + suc i + 1 ≡ a + suc (suc i) = omega arith in
      rw (p, q) at (even (a + suc i) (omega arith) (omega arith))

  pub straight_line : (x : ℕ) → a ≤ x → x < b → line x a (f a) b (f b) ≡ f x
  straight_line x l h =
      let p : a + 0 ≡ a = omega arith in
      let q : a + (b - a) ≡ b = omega arith in
      let r : a + (x - a) ≡ x = omega arith in
      let e : x - a + (b - x) ≡ b - a = omega arith in
      line_exact x a (f a) b (f b) (f x) (omega arith)
      (rw (p, q, r, e) at (met (λ i. f (a + i)) (b - a) even_from (x - a) (b - x) e))

module _ (f : ℕ → ℕ) (period : ℕ) where
  -- no point: the steps on both sides are one
  turns_no : (x : ℕ) → x < period → turns f period x ≡ false
      → around f period (x - 1) + around f period (x + 1) ≡ around f period x + around f period x
  unfolding turns
  turns_no x l e = rw (closed_in period f (f 0) x l) (eqb-true _ _ (go (eqb x 0) (straight f period x) e))
    where
      go : (q r : Bool) → (q || not r) ≡ false → r ≡ true
      go true r z = absurd (true≢false z)
      go false true z = refl
      go false false z = absurd (true≢false z)

  -- point i of the day, and what else it is
  turns_listed : length (select period (turns f period)) ≡ turn_count f period
  unfolding turn_count
  turns_listed = count_select (turns f period) period

  pub turn_is : (i : ℕ) → i < turn_count f period → Selected period (turns f period) i (turn_tick f period i)
  unfolding turn_tick
  turn_is i l = selected (turns f period) period i (omega (arith, turns_listed))

  turns_rise : (i j : ℕ) → i < j → j < turn_count f period → turn_tick f period i < turn_tick f period j
  unfolding turn_tick
  turns_rise i j l m = select_rises (turns f period) period i j l (omega (arith, turns_listed))

  pub turn_at : (x : ℕ) → x < period → turns f period x ≡ true → turn_tick f period (count x (turns f
      period)) ≡ x
  unfolding turn_tick
  turn_at x l e = counted_at (turns f period) period x l e

  pub turn_rank : (x : ℕ) → x < period → turns f period x ≡ true → count x (turns f period) < turn_count f
      period
  turn_rank x l e =
      omega (arith, rank_rises (turns f period) x period l e, count_select (turns f period) x, turns_listed)

  -- between two neighbours there is no point
  turns_between : (i y : ℕ) → i < turn_count f period → turn_tick f period i < y → y < period
      → (suc i < turn_count f period → y < turn_tick f period (suc i)) → turns f period y ≡ false
  turns_between i y l a b next = go (turns f period y) refl
    where
      go : (t : Bool) → turns f period y ≡ t → t ≡ false
      go false e = refl
      go true e =
          let s = turn_is i l in
          let r = count y (turns f period) in
          let m : i < r =
          omega (
            arith,
            rank_rises (turns f period) (turn_tick f period i) y a s.passes,
            s.rank,
            count_select (turns f period) y,
          ) in
          elim (dec_lt (suc i) r) [
            | yes k ↦ absurd
                (omega (
                  arith,
                  turns_rise (suc i) r k (turn_rank y b e),
                  turn_at y b e,
                  next (omega (arith, turn_rank y b e)),
                ))
            | no k ↦
                let q : r ≡ suc i = omega arith in
                absurd (omega (arith, rw q at (turn_at y b e), next (omega (arith, turn_rank y b e))))
          ]

  -- tick 0 is one
  pub turn_start : turns f period 0 ≡ true
  unfolding turns
  turn_start = refl

  -- they are a day's points
  module _ (some : 0 < period) where
    pub turns_day : Day (turn_tick f period) (turn_count f period) period
    unfolding turn_tick turn_count
    turns_day = record {
      some = omega (arith, turn_rank 0 some turn_start);
      start = rw (← (count_none (turns f period))) at (turn_at 0 some turn_start);
      rise = λ i l. turns_rise i (suc i) (omega arith) l;
      below = λ i l. (turn_is i l).below;
    }

  pub turns_few : turn_count f period ≤ period
  unfolding turn_count
  turns_few = count_few (turns f period) period

  -- their ticks and values, closed by the next day's first
  abbrev tick : ℕ → ℕ
  tick = closed (turn_count f period) (turn_tick f period) period

  abbrev worth : ℕ → ℕ
  worth = closed (turn_count f period) (turn_value f period) (turn_value f period 0)

  tick_in : (i : ℕ) → i < turn_count f period → tick i ≡ turn_tick f period i
  tick_in = closed_in (turn_count f period) (turn_tick f period) period

  tick_end : (i : ℕ) → turn_count f period ≤ i → tick i ≡ period
  tick_end = closed_end (turn_count f period) (turn_tick f period) period

  module _ (some : 0 < period) where
    tick_most : (i : ℕ) → tick i ≤ period
    tick_most i = elim (dec_lt i (turn_count f period)) [
      | yes l ↦ omega (arith, tick_in i l, (turns_day some).below i l)
      | no l ↦ omega (arith, tick_end i (omega arith))
    ]

    worth_at : (i : ℕ) → worth i ≡ around f period (tick i)
    worth_at i = elim (dec_lt i (turn_count f period)) [
      | yes l ↦
          rw (closed_in (turn_count f period) (turn_value f period) (turn_value f period 0) i l, tick_in i l)
          (sym (closed_in period f (f 0) (turn_tick f period i) ((turns_day some).below i l)))
      | no l ↦
          let m : turn_count f period ≤ i = omega arith in
          rw (
            closed_end (turn_count f period) (turn_value f period) (turn_value f period 0) i m,
            tick_end i m,
            (turns_day some).start,
          )
          (sym (closed_end period f (f 0) period (omega arith)))
    ]

    -- between two neighbours every step is the one before it
    even : (k y : ℕ) → k < turn_count f period → tick k < y → y < tick (suc k)
        → around f period (y - 1) + around f period (y + 1) ≡ around f period y + around f period y
    even k y l a b =
        let m : y < period = omega (arith, tick_most (suc k)) in
        turns_no y m
        (turns_between k y l (omega (arith, tick_in k l)) m (λ n. omega (arith, tick_in (suc k) n)))

    -- by them the value at every tick is the one it was
    on_piece : (k x : ℕ) → x < period → Segment tick (turn_count f period) x k
        → line x (tick k) (worth k) (tick (suc k)) (worth (suc k)) ≡ f x
    on_piece k x h s =
        rw (worth_at k, worth_at (suc k))
        (straight_line (around f period) (tick k) (tick (suc k)) (λ y. even k y s.below) x s.at
        s.next ∙ closed_in period f (f 0) x h)

    pub turns_value : (x : ℕ) → x < period
        → day_value (turn_tick f period) (turn_value f period) (turn_count f period) period x ≡ f x
    unfolding day_value value
    turns_value x h =
        let d = turns_day some in
        on_piece (segment tick (turn_count f period) x) x h
        (segment_is tick (turn_count f period) x (omega (arith, tick_in 0 d.some, d.start))
        (omega (arith, tick_end (turn_count f period) (omega arith))))

-- a day with the same values has the same points
module _ (f g : ℕ → ℕ) (period : ℕ) (e : (x : ℕ) → x < period → f x ≡ g x) where
  around_same : (x : ℕ) → 0 < period → around f period x ≡ around g period x
  around_same x some = elim (dec_lt x period) [
    | yes l ↦ rw (closed_in period f (f 0) x l, closed_in period g (g 0) x l) (e x l)
    | no l ↦ rw (closed_end period f (f 0) x (omega arith), closed_end period g (g 0) x (omega arith)) (e 0
        some)
  ]

  pub turns_same : (x : ℕ) → x < period → turns f period x ≡ turns g period x
  unfolding turns
  turns_same x l =
      rw (around_same (x - 1) (omega arith), around_same (x + 1) (omega arith), e x l)

  pub turn_count_same : turn_count f period ≡ turn_count g period
  unfolding turn_count
  turn_count_same = count_same (turns f period) (turns g period) period turns_same

-- FOR A READER of points that stand anywhere: n points (t i, v i) that are these
closed_same : (n : ℕ) (f h : ℕ → ℕ) (d e : ℕ) → d ≡ e → ((i : ℕ) → i < n → f i ≡ h i) → (i : ℕ)
    → closed n f d i ≡ closed n h e i
closed_same n f h d e q r i = elim (dec_lt i n) [
  | yes l ↦ rw (closed_in n f d i l, closed_in n h e i l) (r i l)
  | no l ↦ rw (closed_end n f d i (omega arith), closed_end n h e i (omega arith)) q
]

value_same : (t u v w : ℕ → ℕ) (n x : ℕ) → ((i : ℕ) → t i ≡ u i) → ((i : ℕ) → v i ≡ w i)
    → value t v n x ≡ value u w n x
unfolding value segment
value_same t u v w n x p q =
    let e : segment t n x ≡ segment u n x = ap (λ (k : ℕ). k - 1) (first_same _ _ n (λ k l. rw (p k))) in
    rw (e, p (segment u n x), q (segment u n x), p (suc (segment u n x)), q (suc (segment u n x)))

module _ (f : ℕ → ℕ) (period : ℕ) (some : 0 < period) {t : ℕ → ℕ} {n : ℕ} (c : n ≡ turn_count f period)
    (r : (i : ℕ) → i < n → t i ≡ turn_tick f period i) where
  pub turned_day : Day t n period
  turned_day =
      let d = rw (← c) at (turns_day f period some) in
      record {
        some = d.some;
        start = r 0 d.some ∙ d.start;
        rise = λ i l. rw (r i (omega arith), r (suc i) l) (d.rise i l);
        below = λ i l. rw (r i l) (d.below i l);
      }

  pub turned_value : {v : ℕ → ℕ} → ((i : ℕ) → i < n → v i ≡ turn_value f period i) → (x : ℕ) → x < period
      → day_value t v n period x ≡ f x
  unfolding day_value
  turned_value {v} q x h =
      value_same
      (closed n t period)
      (closed n (turn_tick f period) period)
      (closed n v (v 0))
      (closed n (turn_value f period) (turn_value f period 0))
      n
      x
      (closed_same n t (turn_tick f period) period period refl r)
      (closed_same n v (turn_value f period) (v 0) (turn_value f period 0) (q 0 turned_day.some) q)
      ∙ (rw (← c) at (turns_value f period some x h))
