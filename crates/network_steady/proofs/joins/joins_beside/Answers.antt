-- `network_steady::joins::joins_beside` meets its contract: the test is counted at the first e points.
use Rattle.std.proofs.Common.{arith, rules}
use Rattle.network_steady.specs.Joins.{beside_few, besides}
use Rattle.network_steady.proofs.joins.joins_beside.Goals as goal

pub loop-e-init : goal.loop-e-init
loop-e-init c = (search rules, search besides)

pub overflow_add-count : goal.overflow_add-count
overflow_add-count c =
    omega (
      arith,
      beside_few _ _ _ _ _ _ _ _ c.loop-e.invariant.1 c.joins-count.ensures,
    )

pub loop-e-preserved : goal.loop-e-preserved
loop-e-preserved c = (search rules, search besides)

pub returns : goal.returns
returns c = search besides
