-- `leasts::least_of_arcs` meets its contract: the arcs passed have their least travel.
use native.Mathlib.Omega.{arith}
use Rattle.toward_list.specs.Leasts.{leasts_none, leasts_more, leasts_end}
use borrow.Author.Rules.{rules}
use Rattle.toward_list.proofs.leasts.least_of_arcs.Goals as goal

pub loop-a-init : goal.loop-a-init
loop-a-init c = (search rules, search leasts_none, search rules)

pub loop-a-preserved : goal.loop-a-preserved
loop-a-preserved c = (
  search rules,
  leasts_more c.loop-a.invariant.1 (omega arith) c.least_of_arc.ensures,
  search rules,
)

pub returns : goal.returns
returns c = leasts_end c.loop-a.invariant.1 c.loop-a.invariant.0 c.loop-a-test.false
