-- `trip::flagged::drive_flagged` meets its contract.
use native.Mathlib.Omega.{arith}
use Rattle.trip_call.specs.Drive.{drive_laid, drive_sizes}
use Rattle.trip.specs.Flagged.{flags, flagged_driven}
use Rattle.trip.proofs.flagged.drive_flagged.Goals as goal

pub cell-c-requires-clause-laid : goal.cell-c-requires-clause-laid
cell-c-requires-clause-laid c = search drive_laid

pub cell-c-requires-clause-v_lt_nodes : goal.cell-c-requires-clause-v_lt_nodes
cell-c-requires-clause-v_lt_nodes c = omega (arith, drive_sizes _ _ c.layout.ensures, c.requires.asked.to_node)

pub layout-requires-2 : goal.layout-requires-2
layout-requires-2 c = search flags

pub fill_mask-requires-clause-plan_laid : goal.fill_mask-requires-clause-plan_laid
fill_mask-requires-clause-plan_laid c = search flags

pub fill_mask-requires-clause-c_lt_most_cells : goal.fill_mask-requires-clause-c_lt_most_cells
fill_mask-requires-clause-c_lt_most_cells c = (search flags, search flags, search flags)

pub visit_over-requires-clause-arcs_in_bounds : goal.visit_over-requires-clause-arcs_in_bounds
visit_over-requires-clause-arcs_in_bounds c = search flags

pub returns-clause-trip : goal.returns-clause-trip
returns-clause-trip c = flagged_driven c.requires.valid_file c.requires.valid_plan _ _ _ _ _ c.cell-c.ensures.0 c.layout-2.ensures
    c.fill_mask.ensures _ _ _ _ _ _ _ c.visit_over.ensures.trip

pub returns-clause-opens : goal.returns-clause-opens
returns-clause-opens c = c.visit_over.ensures.opens
