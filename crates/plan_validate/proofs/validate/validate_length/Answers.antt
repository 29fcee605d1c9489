-- `plan_validate::validate::validate_length` meets its contract: the length decides; where it is right the
-- plan is laid out.
use native.Mathlib.Omega.{arith}
use Rattle.plan.specs.PlanValidate.{blocks_few, length_taken, length_passed, now_laid}
use Rattle.plan_validate.proofs.validate.validate_length.Goals as goal

pub overflow_mul-l : goal.overflow_mul-l
overflow_mul-l c =
    omega (
      arith,
      blocks_few c.args.plan.now _ _ c.layout-l.ensures
          c.requires.plan_within,
    )

pub returns-then-plan-l : goal.returns-then-plan-l
returns-then-plan-l c = search length_taken

pub validate_form-requires-clause-plan_laid : goal.validate_form-requires-clause-plan_laid
validate_form-requires-clause-plan_laid c = search now_laid

pub returns : goal.returns
returns c = search length_passed
