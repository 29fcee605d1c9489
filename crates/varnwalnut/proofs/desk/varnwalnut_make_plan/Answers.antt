-- `varnwalnut::desk::varnwalnut_make_plan` meets its contract.
use mathlib.Core.Path.{refl}
use Rattle.varnwalnut.specs.Calling.{make_short, make_written}
use Rattle.varnwalnut.proofs.desk.varnwalnut_make_plan.Goals as goal

pub returns-then-answer-lt4 : goal.returns-then-answer-lt4
returns-then-answer-lt4 c = make_short _ _ _ _ _ c.if-answer-lt4.true refl

pub returns : goal.returns
returns c = search make_written
