-- `trip::plain::plain_trip` meets its contract.
use Rattle.trip_plain.specs.Plain.{plains}
use Rattle.trip_call.specs.{Stage.stages, Visit.visits}
use Rattle.trip_plain.proofs.plain.plain_trip.Goals as goal

pub visit_over-requires-clause-valid_file : goal.visit_over-requires-clause-valid_file
visit_over-requires-clause-valid_file c = search plains

pub visit_over-requires-clause-asked : goal.visit_over-requires-clause-asked
visit_over-requires-clause-asked c = search plains

pub visit_over-requires-clause-arcs_in_bounds : goal.visit_over-requires-clause-arcs_in_bounds
visit_over-requires-clause-arcs_in_bounds c = search plains

pub returns-in-Err-clause-trip : goal.returns-in-Err-clause-trip
returns-in-Err-clause-trip c = search stages

pub returns-in-Err-clause-opens : goal.returns-in-Err-clause-opens
returns-in-Err-clause-opens c = search visits

pub returns-in-Ok-clause-trip : goal.returns-in-Ok-clause-trip
returns-in-Ok-clause-trip c = search plains
