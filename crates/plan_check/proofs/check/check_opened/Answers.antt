-- `plan_check::check::check_opened` meets its contract.
use Rattle.plan_check.specs.{Checking.checks, Finds.finds_none}
use mathlib.Core.Path.{◌∙◌}
use Rattle.plan_check.proofs.check.check_opened.Goals as goal

pub check_formed-requires-clause-valid_plan : goal.check_formed-requires-clause-valid_plan
check_formed-requires-clause-valid_plan c = search checks

pub returns-in-Err : goal.returns-in-Err
returns-in-Err c =
    (c.before_finds.ensures.0 ∙ search checks, finds_none _ _ _ c.before_finds.ensures.0 c.before_finds.ensures.1)

pub returns-in-Ok : goal.returns-in-Ok
returns-in-Ok c = search checks
