-- `sheet_text::answer::put_trip` meets its contract.
use Rattle.sheet_text.specs.TripStored.{trip_fits, trip_stored}
use borrow.Author.Rules.{rules}
use Rattle.sheet_text.proofs.answer.put_trip.Goals as goal

pub put_answer-requires : goal.put_answer-requires
put_answer-requires c = (search rules, search rules, search trip_fits)

pub returns-clause-text : goal.returns-clause-text
returns-clause-text c = search trip_stored
