-- The laws by which code reads when an arc ends: where the arc's points start, that they are a day's points,
-- and the travel on their line. Also what fits: first points 16 bits, travels and arrivals 32, with never to
-- spare.
use mathlib.Core.{Path.◌≡◌, Path.refl, Path.sym, Path.◌∙◌, List.List}
use Rattle.std.specs.Prelude.{ℕ, ◌+◌, ◌-◌, ◌%◌, ◌≤◌, ◌<◌, length, get_or}
use native.Mathlib.{Nat.mod-lt, Nat.mod-eq_of_lt, Omega.arith}
use mir.{Val.Fits, Syntax.w32, Syntax.w64}
use Rattle.theory_loops.specs.Total.{total, total_part, total_more}
use Rattle.theory_paths.specs.{Graph.ends, Earliest.never}
use Rattle.theory_travel.specs.{Day.Day, Table.entry_at, Table.value_at}
use Rattle.network.specs.{Limits.most_period, Network.Network, Network.count, Network.start, Decode.decode}
use Rattle.network.specs.declared.header.Layout.{Layout}
use Rattle.network.specs.Town.{graph_of, travel_at, town_bounded}
use Rattle.search_chains.specs.Town.{Town, last_tick}

-- The table has the first point of the arc after arc a, where there is one.
pub record NextStart (n : Network) (arcs : ℕ) (starts : List ℕ) (a : ℕ) : Type 0 where
  pub entry : a + 1 < arcs → get_or starts (a + 1) 0 ≡ start n (a + 1)

pub next_start : {n : Network} {arcs : ℕ} {starts : List ℕ}
    → ((a : ℕ) → a < arcs → get_or starts a 0 ≡ start n a) → (a : ℕ) → NextStart n arcs starts a
next_start f a = record { entry = λ h. f (a + 1) h }

-- a tick of the first day is reduced
pub first_day : (y period : ℕ) → y < period → y ≡ y % period
first_day y period h = sym (mod-eq_of_lt h)

module _ {file : List ℕ} {l : Layout} (t : Town file l) where
  -- any tick, reduced, is one of the period
  pub reduced : (y x : ℕ) → x ≡ y % l.period → x < l.period
  reduced y x e = omega (arith, e, mod-lt y t.small.period_some)

  module _ {a : ℕ} (h : a < l.arcs) where
    arc_in_lem : a < length (decode file).tails
    arc_in_lem = omega (arith, t.sizes.arcs)

    -- an arc's points stand among the points, behind those of the arcs before it
    points_in : total a (count (decode file)) + count (decode file) a ≤ l.points
    unfolding start
    points_in =
        omega (
          arith,
          total_part (count (decode file)) a (length (decode file).tails) arc_in_lem,
          t.sound.sum,
          t.sizes.points,
        )

    pub start_small : (s : ℕ) → s ≡ total a (count (decode file)) → s < 65536
    start_small s e = omega (arith, points_in, t.small.points_most)

    pub sum_fits : (s m : ℕ) → s ≡ total a (count (decode file)) → m < 65536 → Fits w64 (s + m)
    sum_fits s m e q = omega (arith, start_small s e)

    -- `from` was read in the table of first points: the arc's points end where the next arc's start, or all
    -- do
    module _ (starts : List ℕ) (from : ℕ) (d : from ≡ get_or starts a 0)
        (e : get_or starts a 0 ≡ start (decode file) a) where
      counted : start (decode file) (a + 1) ≡ from + count (decode file) a
      unfolding start
      counted =
          omega (
            arith,
            total_more (count (decode file)) (total a (count (decode file))) (count (decode file) a) a refl
                refl,
            d ∙ e,
          )

      module _ (to : ℕ) (next : NextStart (decode file) l.arcs starts a) (o : a + 1 < l.arcs)
          (q : to ≡ get_or starts (a + 1) 0) where
        pub count_above : from ≤ to
        count_above = omega (arith, counted, q, next.entry o)

        pub count_between : to - from ≡ count (decode file) a
        count_between = omega (arith, counted, q, next.entry o)

      module _ (o : l.arcs ≤ a + 1) where
        all : start (decode file) (a + 1) ≡ l.points
        all =
            let p : a + 1 ≡ length (decode file).tails = omega (arith, t.sizes.arcs) in
            rw p (omega (arith, t.sound.sum, t.sizes.points))

        pub last_above : from ≤ l.points
        last_above = omega (arith, counted, all)

        pub last_between : l.points - from ≡ count (decode file) a
        last_between = omega (arith, counted, all)

    -- `from` was read in the table of first points, and m is the count of the arc's points
    module _ (starts : List ℕ) (from m : ℕ) (d : from ≡ get_or starts a 0)
        (e : get_or starts a 0 ≡ start (decode file) a) (q : m ≡ count (decode file) a) where
      first : from ≡ start (decode file) a
      first = d ∙ e

      pub arc_points : from + m ≤ l.points
      unfolding start
      arc_points = omega (arith, points_in, first)

      pub arc_day : Day (entry_at (decode file).ticks from) m l.period
      arc_day = rw (first, q, t.sizes.period) (t.sound.points_of a arc_in_lem).day

      -- r is the travel that was read at tick y, reduced to x
      module _ (r y x : ℕ) (o : x ≡ y % l.period)
          (v : r ≡ value_at (decode file).ticks (decode file).travels from m l.period x) where
        at : r ≡ travel_at (decode file) a (y % (decode file).period)
        unfolding travel_at
        at = rw (o, first, q, t.sizes.period) at v

        small : r ≤ most_period
        small =
            let p : 0 < (decode file).period = omega (arith, t.sizes.period, t.small.period_some) in
            omega (
              arith,
              at,
              town_bounded t.sound a (y % (decode file).period) arc_in_lem (mod-lt y p),
              t.sizes.period,
              t.small.period_most,
            )

        pub travel_fits : Fits w32 r
        travel_fits = omega (arith, small)

        pub end_fits : y ≤ last_tick → Fits w32 (y + r)
        end_fits h = omega (arith, small)

        pub end_early : y ≤ last_tick → y + r < never
        end_early h = omega (arith, small)

        pub travel_ends : y + r ≡ ends (graph_of (decode file)) a y
        unfolding ends
        travel_ends = rw at

-- for `search (times, needs)` at the needs of such code
pub ruleset times = (
  first_day,
  reduced,
  start_small,
  sum_fits,
  arc_points,
  arc_day,
  travel_fits,
  end_fits,
  end_early,
  travel_ends,
)
