-- `least_travels` meets its contract: there is no node of which the row is wanted alone.
use native.Mathlib.Omega.{arith}
use Rattle.toward_list.specs.Rows.{worked_all}
use Rattle.toward_node.proofs.least_travels.Goals as goal

pub returns : goal.returns
returns c = (
  worked_all (omega (arith, c.args.roads.now.ready.primed.town.sizes.nodes)) c.work_out.ensures.0,
  c.work_out.ensures.1 (omega arith),
  c.work_out.ensures.2,
)
