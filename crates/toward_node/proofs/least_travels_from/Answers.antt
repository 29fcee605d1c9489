-- `least_travels_from` meets its contract: the row that is wanted is that of `from`.
use native.Mathlib.Omega.{arith}
use Rattle.toward_list.specs.Rows.{worked_one}
use Rattle.toward_node.proofs.least_travels_from.Goals as goal

pub returns : goal.returns
returns c =
    worked_one (omega (arith, c.requires.1, c.args.roads.now.ready.primed.town.sizes.nodes))
    c.work_out.ensures.0
