-- `trip::flagged::flagged_trip` meets its contract.
use Rattle.trip_call.specs.{Stage.stages, Visit.visits}
use Rattle.trip.proofs.flagged.flagged_trip.Goals as goal

pub flagged_planned-requires : goal.flagged_planned-requires
flagged_planned-requires c = search stages

pub returns-in-Err-clause-trip : goal.returns-in-Err-clause-trip
returns-in-Err-clause-trip c = search stages

pub returns-in-Err-clause-opens : goal.returns-in-Err-clause-opens
returns-in-Err-clause-opens c = search visits

pub returns-in-Ok-clause-trip : goal.returns-in-Ok-clause-trip
returns-in-Ok-clause-trip c = search stages
