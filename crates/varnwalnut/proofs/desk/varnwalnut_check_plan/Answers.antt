-- `varnwalnut::desk::varnwalnut_check_plan` meets its contract.
use mathlib.Core.Path.{refl}
use Rattle.varnwalnut.specs.Calling.{check_short, check_written}
use Rattle.varnwalnut.proofs.desk.varnwalnut_check_plan.Goals as goal

pub returns-then-answer-lt5 : goal.returns-then-answer-lt5
returns-then-answer-lt5 c = check_short _ _ _ _ c.if-answer-lt5.true refl

pub returns : goal.returns
returns c = search check_written
