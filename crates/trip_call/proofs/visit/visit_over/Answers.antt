-- `trip_call::visit::visit_over` meets its contract.
use Rattle.trip_call.specs.Visit.{visit_early}
use Rattle.trip_call.proofs.visit.visit_over.Goals as goal

pub open_tick-opens-requires-clause-valid_file : goal.open_tick-opens-requires-clause-valid_file
open_tick-opens-requires-clause-valid_file c = c.requires.valid_file

pub open_tick-opens-requires-clause-target_lt_nodes : goal.open_tick-opens-requires-clause-target_lt_nodes
open_tick-opens-requires-clause-target_lt_nodes c = (c.requires.asked.to_node, visit_early c.requires.valid_file c.requires.asked c.drive-trip.ensures)
