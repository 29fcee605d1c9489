-- What an arc gives at a tick, and whether it passes what is asked of an arc: that it gives less than a
-- value, gives it, or gives it and has the flag of a cell. The definitions are those of specs/Tests.antt with
-- what is asked as a parameter. And what the code rests on that reads what arcs give towards a border.
use mathlib.Core.{Path.◌≡◌, Bool.Bool, Bool.true, Bool.◌&&◌, List.List}
use Rattle.std.specs.Prelude.{ℕ, ◌+◌, ◌*◌, ◌<◌}
use Rattle.std.proofs.Common.{arith}
use lib.{ListN.get_or, Dec.eqb}
use Rattle.theory_paths.specs.{Partition.Partition, Profiles.Travel}
use Rattle.network.specs.{Limits.most_cells, Network.head, Network.cell, Network.start, Decode.decode}
use Rattle.network.specs.Town.{graph_of, partition_of}
use Rattle.search_chains.specs.Town.{head_node}
use Rattle.plan_tests.specs.declared.tests.{Layouts.Layouts, Target.Target}
use Rattle.plan.specs.{Border.border_at, Plan.Plan, Plan.flag, Plan.profile, Plan.profile_value}
use Rattle.plan.specs.PlanDecode.{decode_plan}
use Rattle.plan_values.specs.{Compare.same, Compare.less, Starts.Started}
use Rattle.plan_tests.specs.{Tests.giving, Checkable.Checkable}

-- what is asked of an arc: that it gives less than a value, gives it, or gives it and has the flag of a cell
pub data Asked : Type 0 where
  Less : Asked
  Same : Asked
  Flagged : ℕ → Asked

-- arc a has the flag that is asked for, if one is
abbrev pub permits : Plan → Asked → ℕ → Bool
permits p Less a = true
permits p Same a = true
permits p (Flagged c) a = flag p a c

-- what an arc gives, against a value
abbrev pub meets : Asked → Travel → Travel → Bool
meets Less got value = less got value
meets Same got value = same got value
meets (Flagged c) got value = same got value

-- arc a leads out of u and passes against u's profile
unfoldable pub passes : Partition → Plan → Asked → ℕ → ℕ → ℕ → ℕ → Bool
passes G p asked i u x a =
    permits p asked a
    && (eqb (G.graph.tail a) u && meets asked (giving G p i a x) (profile G.graph p i u x))

-- A border of the network by its number: its node and its cell, which has a flag.
pub record Aimed (network : List ℕ) (b : Target) : Type 0 where
  pub node : b.node ≡ border_at (partition_of (decode network)) b.number
  pub cell : b.cell ≡ cell (decode network) b.node
  pub flag : b.cell < most_cells

-- the cell of the border with that number
pub aimed_cell : {network : List ℕ} {b : Target} → Aimed network b
    → b.cell ≡ cell (decode network) (border_at (partition_of (decode network)) b.number)
aimed_cell w = rw w.node at w.cell

-- What every function that reads what arcs give towards a border rests on: both files, and the tables of the
-- arcs' first points and of the starts of the border's profiles.
pub record Prepared (network plan : List ℕ) (l : Layouts) (points starts : List ℕ) (b : Target) : Type 0 where
  pub check : Checkable network plan l
  pub first : (a : ℕ) → a < l.network.arcs → get_or points a 0 ≡ start (decode network) a
  pub started : Started plan l.plan b.number starts
  pub number : b.number < l.plan.borders
  pub aimed : Aimed network b

module _ {network plan : List ℕ} {l : Layouts} (w : Checkable network plan l) where
  -- the profile of border number i and node u, by the layout's counts
  pub profile_same : (i u x : ℕ)
      → profile_value l.plan.period (decode_plan plan) (i * l.plan.nodes + u) x
      ≡ profile (graph_of (decode network)) (decode_plan plan) i u x
  profile_same i u x = rw (w.period, w.town.sizes.period, w.nodes, w.town.sizes.nodes)

  pub head_in : {a y : ℕ} → a < l.network.arcs → y ≡ head (decode network) a → y < l.plan.nodes
  head_in {a} {y} h e = omega (arith, head_node w.town a y h e, w.nodes)
