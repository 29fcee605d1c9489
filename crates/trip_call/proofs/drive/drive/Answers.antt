-- `trip_call::drive::drive` meets its contract.
use native.Mathlib.Omega.{arith}
use Rattle.trip_call.specs.Drive.{driven_call, drive_laid, drive_sound, drive_sizes}
use Rattle.trip_call.proofs.drive.drive.Goals as goal

pub search-requires-clause-laid : goal.search-requires-clause-laid
search-requires-clause-laid c = let z = drive_sizes _ _ c.layout.ensures in
    search drive_laid

pub search-requires-clause-sound_network : goal.search-requires-clause-sound_network
search-requires-clause-sound_network c = let z = drive_sizes _ _ c.layout.ensures in
    search drive_sound

pub search-requires-clause-arcs_in_bounds : goal.search-requires-clause-arcs_in_bounds
search-requires-clause-arcs_in_bounds c = let z = drive_sizes _ _ c.layout.ensures in
    omega arith

pub search-requires-clause-source_lt_nodes : goal.search-requires-clause-source_lt_nodes
search-requires-clause-source_lt_nodes c = let z = drive_sizes _ _ c.layout.ensures in
    omega arith

pub returns : goal.returns
returns c = search driven_call
