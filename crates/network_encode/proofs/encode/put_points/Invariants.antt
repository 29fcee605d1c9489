-- `network_encode::encode::put_points` meets its contract.
use Prim.Native.Nat.{◌+◌, ◌*◌, ◌≤◌}
use Rattle.theory_loops.specs.Fill.{Filled}
use Rattle.network_encode.specs.{Encode.point_byte}
use Rattle.network_encode.specs.Entries.{part_byte}
use Rattle.network_encode.proofs.encode.put_points.Given as goal

abbrev pub invariant-loop-e : goal.invariant-loop-e
invariant-loop-e l =
    (l.e ≤ l.m) × Filled l.base (l.base + 4 * l.e) (part_byte 4 (point_byte l.ticks l.travels) l.base l.first) l.initial.out l.out
