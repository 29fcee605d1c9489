-- `sheet_text::answer::put_line` meets its contract.
use Rattle.sheet_text.specs.TripStored.{line_asks, line_other}
use Rattle.sheet_text.proofs.answer.put_line.Goals as goal

pub returns-in-Some-clause-text : goal.returns-in-Some-clause-text
returns-in-Some-clause-text c = search line_asks

pub returns-in-None-clause-text : goal.returns-in-None-clause-text
returns-in-None-clause-text c = search line_other
