-- `c_replies::trip::write_arrived` meets its contract.
use Rattle.c_trip.specs.Writing.{roads_stored}
use Rattle.c_trip.proofs.trip.write_arrived.Goals as goal

pub returns : goal.returns
returns c =
    roads_stored _ _ _ _ _ _ _ c.put32.ensures
    c.put32-2.ensures
    c.put16.ensures _ _
    c.write_roads.ensures
