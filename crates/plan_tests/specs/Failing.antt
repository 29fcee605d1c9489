-- The laws by which code comes to the test 20 at an arc, and what the tests at a border rest on.
use mathlib.Core.{Path.◌≡◌, Logic.◌≢◌, Bool.Bool, Bool.false, Bool.not, List.List}
use Rattle.std.specs.Prelude.{ℕ, ◌<◌}
use Rattle.std.proofs.Common.{arith, eq-eqb, ne_eqb}
use Rattle.theory_paths.specs.Partition.{Partition}
use Rattle.network.specs.declared.header.Layout.{Layout}
use Rattle.network.specs.{Limits.most_cells, Network.cell, Network.tail, Decode.decode}
use Rattle.search_chains.specs.{Chain.Chained, Town.Town}
use Rattle.plan_tests.specs.declared.tests.{Layouts.Layouts, Target.Target}
use Rattle.plan.specs.{Border.tail_cell, Border.head_cell, Plan.Plan, Plan.bit, PlanDecode.flag_word}
use Rattle.plan_tests.specs.{Tests.fails20, Giving.Prepared}

-- 20, of arc a from t to h, whose cells are d and c
module _ (G : Partition) (p : Plan) (a : ℕ) {t h d c : ℕ} (from : t ≡ G.graph.tail a)
    (to : h ≡ G.graph.head a) (e : d ≡ G.cell t) (f : c ≡ G.cell h) where
  cells : (d ≡ tail_cell G a) × (c ≡ head_cell G a)
  cells = (rw from at e, rw to at f)

  pub inside_not : d ≢ c → false ≡ fails20 G p a
  inside_not q = rw (← cells.0, ← cells.1, ne_eqb d c q)

  pub inside_by : {word : ℕ} {r : Bool} → d ≡ c → word ≡ flag_word p a → r ≡ bit word c → not r ≡ fails20 G p a
  inside_by q g z = rw (← cells.0, ← cells.1, eq-eqb d c q, ← g, z)

-- the cell of a node has a flag
pub cell_fits : {network : List ℕ} {l : Layout} → Town network l → {v c : ℕ} → v < l.nodes
    → c ≡ cell (decode network) v → c < most_cells
cell_fits t {v} h e =
    omega
    (arith, t.sound.cells_below v (omega (arith, t.sizes.nodes)), t.sizes.cells, t.small.cells_most)

-- What the tests at a border rest on: what arcs give can be read, and the arcs out of each node are chained.
pub record AtBorder (network plan : List ℕ) (l : Layouts) (points firsts next starts : List ℕ)
    (b : Target) : Type 0 where
  pub prepared : Prepared network plan l points starts b
  pub chained : Chained (tail (decode network)) l.network.nodes l.network.arcs 0 firsts next

-- for `search failings` at the needs of such code
pub ruleset failings = (inside_not, inside_by, cell_fits)
