-- `leasts::least_of_points` meets its contract: no travel of the points passed is less.
use Prim.Native.Nat.{◌≤◌, ◌<◌}
use Rattle.network.specs.Decode.{decode}
use Rattle.toward_list.specs.Leasts.{LeastOf}
use Rattle.toward_list.proofs.leasts.least_of_points.Given as goal

abbrev pub invariant-loop-k : goal.invariant-loop-k
invariant-loop-k l =
    (l.k ≤ l.count) × LeastOf (decode l.file).travels l.from l.k l.low × (l.low < 65536)
