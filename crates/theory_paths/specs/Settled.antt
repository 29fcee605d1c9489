-- Numbers for the travels to a node b that are worked out backwards from b: each is some path's (`Sound`),
-- and no arc gives less than its tail's number (`Settled`), or only what is not wanted: a number that is not
-- below some bar. Numbers up to the bar are the least travels then (`settled_least`), in whatever order they
-- were worked out.
use mathlib.Core.{Path.◌≡◌}
use Rattle.std.specs.Prelude.{ℕ, ◌+◌, ◌%◌, ◌≤◌, ◌<◌}
use Rattle.theory_paths.specs.Graph.{Graph, all}
use Rattle.theory_paths.specs.{Graph.Arrival, Earliest.never}
use Rattle.theory_paths.specs.Least.{Travels}

-- What arc a gives at tick x: its travel, and its head's number at the tick at which it ends.
unfoldable pub gives_ticks : Graph → Travels → ℕ → ℕ → ℕ
gives_ticks g T a x = g.travel a x + T (g.head a) ((x + g.travel a x) % g.period)

-- A number is the travel of some path to b.
pub record Sound (g : Graph) (b : ℕ) (T : Travels) : Type 0 where
  pub capped : (u x : ℕ) → u < g.nodes → x < g.period → T u x ≤ never
  pub travel : (u x : ℕ) → u < g.nodes → x < g.period → T u x < never → Arrival g all u x b (x + T u x)

-- At b the number is 0, and no arc that gives less than the bar gives less than its tail's number.
pub record Settled (g : Graph) (b bar : ℕ) (T : Travels) : Type 0 where
  pub home : (x : ℕ) → x < g.period → T b x ≡ 0
  pub no_less : (a x : ℕ) → a < g.arcs → x < g.period → gives_ticks g T a x < bar
      → T (g.tail a) x ≤ gives_ticks g T a x
