-- `plan_rising::breaks::breaks_some` meets its contract: the breaks of the first e points are counted.
use Rattle.std.proofs.Common.{arith, rules}
use Rattle.plan_rising.specs.Breaks.{beside_few, besides}
use Rattle.plan_rising.proofs.breaks.breaks_some.Goals as goal

pub loop-e-init : goal.loop-e-init
loop-e-init c = (search rules, search besides)

pub overflow_add-breaks : goal.overflow_add-breaks
overflow_add-breaks c =
    omega (arith, c.from-breaks.ensures, beside_few _ _ _ _ _ c.loop-e.invariant.1 c.break_at.ensures.1)

pub loop-e-preserved : goal.loop-e-preserved
loop-e-preserved c = (search rules, rw c.from-breaks.ensures (search besides))

pub returns : goal.returns
returns c = search besides
