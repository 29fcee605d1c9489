-- `leasts::least_of_points` meets its contract: no travel of the points passed is less.
use Rattle.toward_list.specs.Leasts.{leasts, least_more}
use borrow.Author.Rules.{rules}
use Rattle.toward_list.proofs.leasts.least_of_points.Goals as goal

pub loop-k-init : goal.loop-k-init
loop-k-init c = (search rules, search leasts, search rules)

pub loop-k-preserved : goal.loop-k-preserved
loop-k-preserved c = (
  search rules,
  least_more _ _ _ _ _ _ c.loop-k.invariant.1 c.travel.ensures.0 c.min-low.ensures,
  search rules,
)

pub returns : goal.returns
returns c = (search leasts, search rules)
