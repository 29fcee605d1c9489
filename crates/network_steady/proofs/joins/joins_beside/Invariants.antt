-- `network_steady::joins::joins_beside` meets its contract: the test is counted at the first e points.
use Rattle.std.proofs.Common.{◌≡◌, ◌≤◌}
use Rattle.theory_loops.specs.Count as Count
use Rattle.network_steady.specs.Joins.{join_at}
use Rattle.network_steady.proofs.joins.joins_beside.Given as goal

abbrev pub invariant-loop-e : goal.invariant-loop-e
invariant-loop-e l =
    (l.e ≤ l.m) × (l.count ≡ Count.count l.e (join_at l.period l.file l.base))
