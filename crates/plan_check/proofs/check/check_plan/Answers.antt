-- `plan_check::check::check_plan` meets its contract.
use Rattle.plan_check.specs.{Checking.checks, Finds.finds_none}
use mathlib.Core.Path.{◌∙◌}
use Rattle.plan_check.proofs.check.check_plan.Goals as goal

pub check_opened-requires : goal.check_opened-requires
check_opened-requires c = search checks

pub returns-in-Err : goal.returns-in-Err
returns-in-Err c =
    (c.before_finds.ensures.0 ∙ search checks, finds_none _ _ _ c.before_finds.ensures.0 c.before_finds.ensures.1)

pub returns-in-Ok : goal.returns-in-Ok
returns-in-Ok c = search checks
