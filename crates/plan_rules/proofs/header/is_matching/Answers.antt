-- `plan_rules::header::is_matching` meets its contract: the first number that differs decides.
use Rattle.theory_loops.specs.Pick.{picks}
use Rattle.plan.specs.PlanValidate.{matching}
use Rattle.plan_rules.proofs.header.is_matching.Goals as goal

pub returns-then-k-h : goal.returns-then-k-h
unfolding matching
returns-then-k-h c = search picks depth 10

pub returns-then-k-h-2 : goal.returns-then-k-h-2
unfolding matching
returns-then-k-h-2 c = search picks depth 10

pub returns-then-k-h-3 : goal.returns-then-k-h-3
unfolding matching
returns-then-k-h-3 c = search picks depth 10

pub returns-then-k-h-4 : goal.returns-then-k-h-4
unfolding matching
returns-then-k-h-4 c = search picks depth 10

pub returns-then-k-h-5 : goal.returns-then-k-h-5
unfolding matching
returns-then-k-h-5 c = search picks depth 10

pub returns-then-count-borders : goal.returns-then-count-borders
unfolding matching
returns-then-count-borders c = search picks depth 10

pub returns : goal.returns
unfolding matching
returns c = search picks depth 10
