-- `c_replies::trip::write_refused` meets its contract.
use Rattle.c_trip.specs.Writing.{head_stored}
use Rattle.c_trip.proofs.trip.write_refused.Goals as goal

pub returns : goal.returns
returns c =
    head_stored _ _ _ _ _ _ _ c.put32.ensures
    c.put32-2.ensures
    c.put16.ensures
