-- Two points side by side, as code holds one against the next in numbers of 16 bits, and the loop over all of
-- them.
use mathlib.Core.{Path.◌≡◌, Path.◌∙◌, Bool.Bool, List.List}
use mir.Val.{bool_byte}
use Rattle.std.specs.Prelude.{ℕ, ◌+◌, ◌-◌, ◌%◌, ◌≤◌, ◌<◌, min, max}
use native.Mathlib.{Omega.arith, Decide.dec_lt}
use lib.{ListN.get_or, Dec.eqb}
use Rattle.theory_loops.specs.Count.{count, count_none, count_few}
use Rattle.theory_breaks.specs.Tally.{tally_more, flag_of}
use Rattle.network.specs.Limits.{most_period}
use Rattle.network_tables.specs.declared.steady.Pairs.{Pairs}

-- one less, and of 0 the largest number of 16 bits
abbrev pub less_one : ℕ → ℕ
less_one x = (x + 65535) % 65536

-- a point with tick t and travel v before one with tick u and travel w: its travel is 1 to the period, and
-- where the next starts no arc, its tick and its end are in order with the next
pub record Ordered (period t v u w : ℕ) : Type 0 where
  pub some : 1 ≤ v
  pub most : v ≤ period
  pub rise : 0 < u → t < u
  pub kept : 0 < u → u + w ≤ 65535 → t + v ≤ u + w

-- the point after point q has tick 0
abbrev pub start_after : List ℕ → ℕ → Bool
start_after ticks q = eqb (get_or ticks (q + 1) 0) 0

-- what is seen of the first m points, each with the one after it
pub record Paired (period : ℕ) (ticks travels : List ℕ) (m : ℕ) (r : Pairs) : Type 0 where
  pub starts : r.starts ≡ count m (start_after ticks)
  pub ordered : r.fault ≡ 0 → (q : ℕ) → q < m
      → Ordered period (get_or ticks q 0) (get_or travels q 0)
      (get_or ticks (q + 1) 0) (get_or travels (q + 1) 0)

-- FOR THE CODE, which works with one less of the next tick and of the travel: two points of which nothing is
-- over are in order
pub ordered_by : (period t v u w : ℕ) {early a b late c d r : ℕ} → v < 65536 → u < 65536
    → (0 < period) × (period ≤ most_period) → early ≡ t - less_one u → a ≡ min (t + less_one v) 65535
    → b ≡ min (less_one u + w) 65535 → late ≡ a - b → c ≡ min (early + late) 65535
    → d ≡ less_one v - (period - 1) → r ≡ min (c + d) 65535 → r ≡ 0
    → Ordered period t v u w
ordered_by period t v u w {early = early} {late = late} {c = c} {d = d} h k l e1 e2 e3 e4 e5 e6 e7 z =
    let no_c : c ≡ 0 = omega (arith, e7, z) in
    let no_d : d ≡ 0 = omega (arith, e7, z) in
    let no_early : early ≡ 0 = omega (arith, e5, no_c) in
    let no_late : late ≡ 0 = omega (arith, e5, no_c) in
    let over : less_one v + 1 ≡ v = omega (arith, h, l, e6, no_d) in
    record {
      some = omega (arith, over);
      most = omega (arith, over, l, e6, no_d);
      rise = λ n. omega (arith, k, n, e1, no_early);
      kept = λ n m. omega (arith, k, n, m, over, e2, e3, e4, no_late);
    }

-- FOR THE LOOP
module _ (period : ℕ) (ticks travels : List ℕ) where
  pub pair_none : Paired period ticks travels 0 (record { starts = 0; fault = 0 })
  pair_none = record { starts = count_none _; ordered = λ _ q h. absurd (omega arith) }

  module _ (m starts fault : ℕ)
      (s : Paired period ticks travels m (record { starts = starts; fault = fault })) where
    pub pair_few : starts ≤ m
    pair_few = omega (arith, s.starts, count_few (start_after ticks) m)

    pub pair_more : (x y one : ℕ) → x ≡ bool_byte (start_after ticks m)
        → (one ≡ 0
        → Ordered period (get_or ticks m 0) (get_or travels m 0)
        (get_or ticks (m + 1) 0) (get_or travels (m + 1) 0))
        → y ≡ max fault one
        → Paired period ticks travels (m + 1) (record { starts = starts + x; fault = y })
    pair_more x y one e f g = record {
      starts = tally_more (start_after ticks) starts m x s.starts (e ∙ flag_of (start_after ticks m));
      ordered = λ z q h. elim (dec_lt q m) [
        | yes l ↦ s.ordered (omega arith) q l
        | no l ↦ let i : m ≡ q = omega arith in
            rw i at (f (omega arith))
      ];
    }

    -- at the end
    pub pair_all : (k : ℕ) → m ≤ k → k ≤ m
        → Paired period ticks travels k (record { starts = starts; fault = fault })
    pair_all k h l = let q : m ≡ k = omega arith in rw q at s

-- for `search pairs` at the needs of that loop
pub ruleset pairs = (pair_none, pair_more, pair_all)
