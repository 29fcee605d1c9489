-- `sheet_text::answer::put_arrival` meets its contract.
use Rattle.sheet_text.specs.TripStored.{arrival_stored}
use Rattle.sheet_text.proofs.answer.put_arrival.Goals as goal

pub returns-clause-text : goal.returns-clause-text
returns-clause-text c = search arrival_stored
