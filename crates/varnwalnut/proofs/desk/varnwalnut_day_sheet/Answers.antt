-- `varnwalnut::desk::varnwalnut_day_sheet` meets its contract.
use mathlib.Core.Path.{refl}
use Rattle.varnwalnut.specs.Calling.{sheet_short, sheet_written}
use Rattle.varnwalnut.proofs.desk.varnwalnut_day_sheet.Goals as goal

pub returns-then-answer-lt4 : goal.returns-then-answer-lt4
returns-then-answer-lt4 c = sheet_short _ _ _ _ _ _ _ c.if-answer-lt4.true refl

pub returns : goal.returns
returns c = search sheet_written
