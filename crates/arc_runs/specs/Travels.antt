-- The travel of an arc over the day, by the points that its readers found in the file.
use mathlib.Core.{Path.◌≡◌, Path.sym, Path.◌∙◌, List.List}
use Rattle.std.specs.Prelude.{ℕ, ◌+◌, ◌≤◌, ◌<◌, length, get_or}
use Rattle.std.proofs.Common.{arith}
use Rattle.theory_loops.specs.Fill.{Filled}
use Rattle.theory_travel.specs.{Day.Day, Table.entry_at, Table.value_at}
use Rattle.network.specs.declared.header.Layout.{Layout}
use Rattle.network.specs.{Network.count, Network.start, Decode.decode, Town.travel_at, Town.town_bounded}
use Rattle.search_chains.specs.Town.{Town}
use Rattle.search_arcs.specs.Times.{arc_points, arc_day}
use Rattle.day_slopes.specs.Runs.{Runs, Short, runs_copied, runs_all}
use Rattle.day_runs.specs.Bounds.{Least, Most, Floor, Ceiling, least_day, most_day}

-- the entries of a list as a function
unfoldable pub entries : List ℕ → ℕ → ℕ
entries list i = get_or list i 0

-- n values of 16 bits
pub record Narrow (values : List ℕ) (n : ℕ) : Type 0 where
  pub small : (i : ℕ) → i < n → get_or values i 0 < 65536

-- a travel is at most a period
module _ {file : List ℕ} {l : Layout} (t : Town file l) {a : ℕ} (h : a < l.arcs) where
  arc_in_lem : a < length (decode file).tails
  arc_in_lem = omega (arith, t.sizes.arcs)

  pub most_travel : (x : ℕ) → x < l.period → travel_at (decode file) a x ≤ l.period
  most_travel x o = rw t.sizes.period (town_bounded t.sound a x arc_in_lem (rw (← t.sizes.period) o))

-- FOR CODE that has read where the points of an arc start, and how many it has
module _ {file : List ℕ} {l : Layout} (t : Town file l) {a : ℕ} (h : a < l.arcs) (points : List ℕ)
    (from m : ℕ)
    (d : from ≡ get_or points a 0) (e : get_or points a 0 ≡ start (decode file) a) (q : m ≡ count (decode file) a)
  where
    -- they are a day's points, and stand among the points
    pub points_day : Day (entry_at (decode file).ticks from) m l.period
    points_day = arc_day t h points from m d e q

    pub points_in : from + m ≤ l.points
    points_in = arc_points t h points from m d e q

    is_travel : (x : ℕ)
        → value_at (decode file).ticks (decode file).travels from m l.period x ≡ travel_at (decode file) a
        x
    unfolding travel_at
    is_travel x = rw (d, e, q, t.sizes.period)

    module _ {s v : List ℕ} {n : ℕ}
        (r : Runs s v n l.period (value_at (decode file).ticks (decode file).travels from m l.period))
      where
        pub runs_travel : Runs s v n l.period (travel_at (decode file) a)
        runs_travel =
            record { grid = r.grid; held = λ i x o lo hi. sym (is_travel x) ∙ r.held i x o lo hi }

        most_value : (i : ℕ) → i < n → get_or v i 0 ≤ l.period
        most_value i o = runs_all (λ k. k ≤ l.period) runs_travel (most_travel t h) i o

        pub runs_narrow : Narrow v n
        runs_narrow = record { small = λ i o. omega (arith, most_value i o, t.small.period_most) }

        module _ {old new : List ℕ} (f : Filled 0 n (entries v) old new) where
          copied : (i : ℕ) → i < n → get_or new i 0 ≡ get_or v i 0
          unfolding entries
          copied i o = f.written i (omega arith) o

          pub runs_told : Runs s new n l.period (travel_at (decode file) a)
          runs_told = runs_copied runs_travel copied

          pub runs_short : Short new n l.period
          runs_short = record { most = λ i o. omega (arith, copied i o, most_value i o) }

    pub floor_travel : {k : ℕ} → Least (entry_at (decode file).travels from) m k
        → Floor (travel_at (decode file) a) l.period k
    floor_travel {k} f = record { least = λ x o. omega (arith, least_day points_day k x o f, is_travel x) }

    pub ceiling_travel : {k : ℕ} → Most (entry_at (decode file).travels from) m k
        → Ceiling (travel_at (decode file) a) l.period k
    ceiling_travel {k} f = record { most = λ x o. omega (arith, most_day points_day k x o f, is_travel x) }
