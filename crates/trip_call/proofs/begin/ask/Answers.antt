-- `trip_call::begin::ask` meets its contract.
use Rattle.theory_loops.specs.Pick.{picks}
use Rattle.trip_call.specs.Trip.{asked}
use Rattle.trip_call.proofs.begin.ask.Goals as goal

pub returns-then-h-q : goal.returns-then-h-q
unfolding asked
returns-then-h-q c = search picks depth 8

pub returns-then-h-q-2 : goal.returns-then-h-q-2
unfolding asked
returns-then-h-q-2 c = search picks depth 8

pub returns-then-h-q-3 : goal.returns-then-h-q-3
unfolding asked
returns-then-h-q-3 c = search picks depth 8

pub returns-then-room-h : goal.returns-then-room-h
unfolding asked
returns-then-room-h c = search picks depth 8

pub returns : goal.returns
unfolding asked
returns c = search picks depth 8
