-- `day_runs::points::least_point` meets its contract: none of the first k + 1 points is below it, and the
-- reader stands before the last of them.
use Rattle.std.specs.Prelude.{◌+◌, ◌≤◌}
use Rattle.day_runs.specs.Bounds.{Least}
use Rattle.day_runs.specs.Reading.{Passed}
use Rattle.day_runs.proofs.points.least_point.Given as goal

abbrev pub invariant-loop-k : goal.invariant-loop-k
invariant-loop-k g l =
    let m = g.P.Points in
    (l.k ≤ l.last) × Least (m.values l.initial.points) (l.k + 1) l.least
    × Passed l.k (m.ticks l.initial.points) (m.values l.initial.points) (m.left l.initial.points)
    (m.ticks l.points) (m.values l.points) (m.left l.points)
