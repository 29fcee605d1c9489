-- `plan_validate::validate::validate_form` meets its contract: a block out of its form decides, or leaves the
-- answer to the rules.
use native.Mathlib.Omega.{arith}
use Rattle.plan.specs.{PlanDecode.plan_small, PlanValidate.form_taken, PlanValidate.form_passed}
use Rattle.plan_validate.proofs.validate.validate_form.Goals as goal

pub overflow_cast-b : goal.overflow_cast-b
overflow_cast-b c = omega (arith, plan_small c.requires.plan_laid)

pub returns-then-b-l : goal.returns-then-b-l
returns-then-b-l c = search form_taken

pub returns : goal.returns
returns c = search form_passed
