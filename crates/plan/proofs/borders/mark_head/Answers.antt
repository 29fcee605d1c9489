-- `plan::borders::mark_head` meets its contract: the head is a node, so it has a mark, and each arm leaves
-- the marks after one arc more.
use Prim.Native.Nat.{◌<◌}
use native.Mathlib.Omega.{arith}
use Rattle.network.specs.{Limits.most_nodes, Decode.laid_small}
use Rattle.plan.specs.Marks.{markings, head_below, mark_set}
use Rattle.plan.proofs.borders.mark_head.Goals as goal

pub cell-requires-clause-v_lt_nodes : goal.cell-requires-clause-v_lt_nodes
cell-requires-clause-v_lt_nodes c = search markings

pub cell-requires-2-clause-v_lt_nodes : goal.cell-requires-2-clause-v_lt_nodes
cell-requires-2-clause-v_lt_nodes c = search markings

-- the head has a mark
pub bounds-marks-head : goal.bounds-marks-head
bounds-marks-head c = omega (
  arith,
  head_below c.requires.laid c.requires.sound_network c.requires.a_lt_arcs c.head-head.ensures.0,
  laid_small c.requires.laid,
)

pub returns-then-cell : goal.returns-then-cell
returns-then-cell c =
    let below : c.head-head.result < most_nodes =
    omega (
      arith,
      head_below c.requires.laid c.requires.sound_network c.requires.a_lt_arcs c.head-head.ensures.0,
      laid_small c.requires.laid,
    ) in
    mark_set _ _ _ c.requires.marked _ _ _ _
    c.head-head.ensures.0 c.tail-tail.ensures.0
    c.cell.ensures.0 c.cell-2.ensures.0 c.if-cell.true below

pub returns-else-cell : goal.returns-else-cell
returns-else-cell c = search markings
