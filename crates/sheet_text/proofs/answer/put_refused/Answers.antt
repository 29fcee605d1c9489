-- `sheet_text::answer::put_refused` meets its contract.
use Rattle.sheet_text.specs.TripStored.{refused_stored}
use Rattle.sheet_text.proofs.answer.put_refused.Goals as goal

pub returns-clause-text : goal.returns-clause-text
returns-clause-text c = search refused_stored
