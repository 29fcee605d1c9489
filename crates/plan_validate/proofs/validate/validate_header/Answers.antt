-- `plan_validate::validate::validate_header` meets its contract: the numbers decide; where they are the
-- network's they are within the limits.
use Rattle.plan.specs.PlanMatch.{header_within, header_taken, header_passed}
use Rattle.plan_validate.proofs.validate.validate_header.Goals as goal

pub validate_length-requires-clause-plan_within : goal.validate_length-requires-clause-plan_within
validate_length-requires-clause-plan_within c = search header_within

pub returns-then-is_matching : goal.returns-then-is_matching
returns-then-is_matching c = search header_passed

pub returns : goal.returns
returns c = search header_taken
