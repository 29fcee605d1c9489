-- The points of one day as a file has them: n points and the period. They are closed by the next day's first,
-- (period, value of the first), so that the line runs on after the last point, and then have all the laws of
-- points in general. It also has the laws by which code that has found the segment gives the value.
use mathlib.Core.{Path.◌≡◌, Path.sym, Path.◌∙◌, Path.ap, Bool.cond}
use Rattle.std.specs.Prelude.{ℕ, suc, ◌+◌, ◌-◌, ◌%◌, ◌≤◌, ◌<◌, ltb}
use native.Mathlib.{Decide.dec_lt, Numerals.add-one, Omega.arith}
use Rattle.std.proofs.Common.{lt-ltb, le-ltb}
use Rattle.theory_loops.specs.First.{first_same}
use Rattle.theory_travel.specs.{Line.line, Search.Sorted, Search.Last}
use Rattle.theory_travel.specs.Points.{
  Points,
  Fifo,
  segment,
  value,
  value_over,
  value_point,
  value_least,
  value_most,
  fifo_over,
}

-- f at the day's n points, and from there on e, the next day's first
unfoldable pub closed : ℕ → (ℕ → ℕ) → ℕ → ℕ → ℕ
closed n f e i = cond (ltb i n) (f i) e

-- the value at tick x, below the period, by the day's n points (t i, v i)
unfoldable pub day_value : (ℕ → ℕ) → (ℕ → ℕ) → ℕ → ℕ → ℕ → ℕ
day_value t v n period x = value (closed n t period) (closed n v (v 0)) n x

-- what the ticks of a day are: the first is 0, they rise, and are below the period
pub record Day (t : ℕ → ℕ) (n period : ℕ) : Type 0 where
  pub some : 0 < n
  pub start : t 0 ≡ 0
  pub rise : (i : ℕ) → suc i < n → t i < t (suc i)
  pub below : (i : ℕ) → i < n → t i < period

module _ (n : ℕ) (f : ℕ → ℕ) (e : ℕ) where
  pub closed_in : (i : ℕ) → i < n → closed n f e i ≡ f i
  unfolding closed
  closed_in i l = rw (lt-ltb i n l)

  pub closed_end : (i : ℕ) → n ≤ i → closed n f e i ≡ e
  unfolding closed
  closed_end i l = rw (le-ltb i n l)

module _ {t : ℕ → ℕ} {n period : ℕ} (d : Day t n period) where
  -- its ticks can be searched for any tick
  pub day_sorted : (x : ℕ) → Sorted t n x
  day_sorted x = record { some = d.some; begun = omega (arith, d.start); rise = d.rise }

  -- its end is the next day's first tick
  day_end : closed n t period n ≡ period
  day_end = closed_end n t period n (omega arith)

  module _ (v : ℕ → ℕ) where
    -- with any values, and closed, they are points as in general
    pub day_points : Points (closed n t period) (closed n v (v 0)) n
    day_points = record {
      some = d.some;
      start = closed_in n t period 0 d.some ∙ d.start;
      rise = λ i l. elim (dec_lt (suc i) n) [
        | yes h ↦ rw (closed_in n t period i l, closed_in n t period (suc i) h) (d.rise i h)
        | no h ↦ rw (closed_in n t period i l, closed_end n t period (suc i) (omega arith)) (d.below i l)
      ];
      wrap = closed_end n v (v 0) n (omega arith) ∙ sym (closed_in n v (v 0) 0 d.some);
    }

    -- what holds of the values of a day's points holds of the next day's first
    all_closed : (P : ℕ → Type 0) → ((i : ℕ) → i < n → P (v i)) → (i : ℕ) → P (closed n v (v 0) i)
    all_closed P all i = elim (dec_lt i n) [
      | yes h ↦ rw (closed_in n v (v 0) i h) (all i h)
      | no h ↦ rw (closed_end n v (v 0) i (omega arith)) (all 0 d.some)
    ]

    -- at its points the line has their values
    pub day_point : (i : ℕ) → i < n → day_value t v n period (t i) ≡ v i
    unfolding day_value
    day_point i l = rw (closed_in n t period i l, closed_in n v (v 0) i l) at (value_point day_points i l)

    -- a value is at least what all points have, so travels of 1 or more stay so, and at most what all have
    pub day_least : (m x : ℕ) → ((i : ℕ) → i < n → m ≤ v i) → x < period → m ≤ day_value t v n period x
    unfolding day_value
    day_least m x all h = value_least day_points m x (λ i _. all_closed (λ w. m ≤ w) all i) (rw day_end h)

    pub day_most : (m x : ℕ) → ((i : ℕ) → i < n → v i ≤ m) → x < period → day_value t v n period x ≤ m
    unfolding day_value
    day_most m x all h = value_most day_points m x (λ i _. all_closed (λ w. w ≤ m) all i) (rw day_end h)

    -- FIFO over all days, where neighbours keep it, the last point and the next day's first included
    pub day_fifo : Fifo (closed n t period) (closed n v (v 0)) n → (x y : ℕ) → x ≤ y
        → x + day_value t v n period (x % period) ≤ y + day_value t v n period (y % period)
    unfolding day_value value_over
    day_fifo f x y l = rw day_end at (fifo_over day_points f x y l)

-- FOR CODE that has found the segment k of tick x, and has read the ends of its line, (a, p) and (b, q)
segment_closed : (t : ℕ → ℕ) (n period x : ℕ) → segment (closed n t period) n x ≡ segment t n x
unfolding segment
segment_closed t n period x = ap (λ (k : ℕ). k - 1) (first_same _ _ n (λ k l. rw (closed_in n t period k l)))

module _ (t v : ℕ → ℕ) (n period x k r a p b q : ℕ) (at : Last t n x k) (e : r ≡ line x a p b q)
    (f : a ≡ t k) (g : p ≡ v k) where
  on_line : b ≡ closed n t period (k + 1) → q ≡ closed n v (v 0) (k + 1) → r ≡ day_value t v n period x
  unfolding day_value value
  on_line h i =
      rw (
        segment_closed t n period x,
        ← at.is,
        ← add-one k,
        closed_in n t period k at.below,
        closed_in n v (v 0) k at.below,
        ← f,
        ← g,
        ← h,
        ← i,
      )
      e

  -- the line to the next point
  pub to_next : k + 1 < n → b ≡ t (k + 1) → q ≡ v (k + 1) → r ≡ day_value t v n period x
  to_next l h i = on_line (h ∙ sym (closed_in n t period (k + 1) l)) (i ∙ sym (closed_in n v (v 0) (k + 1) l))

  -- after the last point, the line to the next day's first
  pub to_first : n ≤ k + 1 → b ≡ period → q ≡ v 0 → r ≡ day_value t v n period x
  to_first l h i =
      on_line (h ∙ sym (closed_end n t period (k + 1) l)) (i ∙ sym (closed_end n v (v 0) (k + 1) l))
