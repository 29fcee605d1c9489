-- `trip::flagged::flagged_planned` meets its contract.
use Rattle.trip_call.specs.Visit.{visits}
use Rattle.trip.specs.Flagged.{plan_stages}
use Rattle.trip.proofs.flagged.flagged_planned.Goals as goal

pub flagged_asked-requires-clause-valid_plan : goal.flagged_asked-requires-clause-valid_plan
flagged_asked-requires-clause-valid_plan c = search plan_stages

pub returns-in-Err-clause-trip : goal.returns-in-Err-clause-trip
returns-in-Err-clause-trip c = search plan_stages

pub returns-in-Err-clause-opens : goal.returns-in-Err-clause-opens
returns-in-Err-clause-opens c = search visits

pub returns-in-Ok-clause-trip : goal.returns-in-Ok-clause-trip
returns-in-Ok-clause-trip c = search plan_stages
