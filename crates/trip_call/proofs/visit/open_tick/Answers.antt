-- `trip_call::visit::open_tick` meets its contract.
use native.Mathlib.Omega.{arith}
use Rattle.trip_call.specs.{Drive.drive_laid, Drive.drive_sizes, Visit.visits}
use Rattle.trip_call.proofs.visit.open_tick.Goals as goal

pub open_after-requires-clause-laid : goal.open_after-requires-clause-laid
open_after-requires-clause-laid c = let z = drive_sizes _ _ c.layout.ensures in
    search drive_laid

pub open_after-requires-clause-v_lt_nodes : goal.open_after-requires-clause-v_lt_nodes
open_after-requires-clause-v_lt_nodes c = let z = drive_sizes _ _ c.layout.ensures in
    (omega (arith, z), search visits)

pub returns-in-Ok : goal.returns-in-Ok
returns-in-Ok c = search visits
