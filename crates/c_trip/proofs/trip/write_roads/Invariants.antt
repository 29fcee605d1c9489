-- `c_replies::trip::write_roads` meets its contract.
use lib.{ListN.length, Seq.sets, ListN.take}
use Rattle.c_trip.specs.{Reply.road_bytes}
use Prim.Native.Nat.{◌≤◌}
use mathlib.Core.Path.{◌≡◌}
use Rattle.c_trip.proofs.trip.write_roads.Given as goal

abbrev pub invariant-loop-i : goal.invariant-loop-i
invariant-loop-i l =
    (l.i ≤ l.count) × (l.answer ≡ sets l.initial.answer 10 (road_bytes (take l.i l.roads))) × (length l.answer ≡ length l.initial.answer)
