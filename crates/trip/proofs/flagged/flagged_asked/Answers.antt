-- `trip::flagged::flagged_asked` meets its contract.
use Rattle.trip_call.specs.{Stage.stages, Visit.visits}
use Rattle.trip.proofs.flagged.flagged_asked.Goals as goal

pub drive_flagged-requires-clause-asked : goal.drive_flagged-requires-clause-asked
drive_flagged-requires-clause-asked c = search stages

pub returns-in-Err-clause-trip : goal.returns-in-Err-clause-trip
returns-in-Err-clause-trip c = search stages

pub returns-in-Err-clause-opens : goal.returns-in-Err-clause-opens
returns-in-Err-clause-opens c = search visits

pub returns-in-Ok-clause-trip : goal.returns-in-Ok-clause-trip
returns-in-Ok-clause-trip c = search stages
