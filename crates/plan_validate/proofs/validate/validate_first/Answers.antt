-- `plan_validate::validate::validate_first` meets its contract: the first block's form decides, or leaves the
-- answer to the header.
use Rattle.theory_loops.specs.Pick.{picks}
use Rattle.plan.specs.PlanValidate.{planned_first}
use Rattle.plan_validate.proofs.validate.validate_first.Goals as goal

pub returns-then-is_first_formed : goal.returns-then-is_first_formed
unfolding planned_first
returns-then-is_first_formed c = search picks

pub returns : goal.returns
unfolding planned_first
returns c = search picks
