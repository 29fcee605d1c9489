-- Least travels to a node b, as numbers that compute: from node u at tick x, the label of b less x, and never
-- where there is no path (`least_ticks`). A number is the least travel exactly where it is a path's and no
-- path takes less (`least_is`). As a profile they are the true one (`least_true`), and a profile is true
-- exactly where it is this one (`least_exactly`): so a contract may equate a table with them.
use mathlib.Core.{List.List}
use Rattle.std.specs.Prelude.{cond, ℕ, ◌+◌, ◌-◌, ◌*◌, ◌≤◌, ◌<◌, eqb}
use Rattle.theory_paths.specs.Graph.{Graph, Lawful, Bounded, all, IsPath, driven, Arrival}
use Rattle.theory_paths.specs.Earliest.{never}
use Rattle.theory_paths.specs.Labels.{label, labels}
use Rattle.theory_paths.specs.Profiles.{Travel, unreachable, ticks, Profile}

-- A number for each node and each tick of the period.
abbrev pub Travels : Type 0
Travels = ℕ → ℕ → ℕ

-- The travel that a number stands for, and the profile that such numbers stand for.
unfoldable pub travel_of : ℕ → Travel
travel_of d = cond (eqb d never) unreachable (ticks d)

abbrev pub profile_of : Travels → Profile
profile_of T u x = travel_of (T u x)

-- The least travel from u to b leaving at tick x: the label of b, less x.
unfoldable pub least_ticks : Graph → ℕ → Travels
least_ticks g b u x =
    let y = label (labels g all u x) b in
    cond (eqb y never) never (y - x)

abbrev pub least_travel : Graph → ℕ → Profile
least_travel g b = profile_of (least_ticks g b)

-- What a graph must meet for that: no arc takes longer than the period, and so many periods as there are
-- nodes end before never.
pub record Modest (g : Graph) : Type 0 where
  pub lawful : Lawful g
  pub bounded : Bounded g g.period
  pub early : g.nodes * g.period ≤ never

-- Number d is the travel of some path from u to b, and none takes less; or it is never and there is no path.
pub record IsLeast (g : Graph) (b u x d : ℕ) : Type 0 where
  pub capped : d ≤ never
  pub travel : d < never → Arrival g all u x b (x + d)
  pub least : (w : List ℕ) → IsPath g all u b w → x + d ≤ driven g w x

-- The numbers T are the least travels to b.
pub record Least (g : Graph) (b : ℕ) (T : Travels) : Type 0 where
  pub at : (u x : ℕ) → u < g.nodes → x < g.period → IsLeast g b u x (T u x)
