-- `day_runs::points::greatest_point` meets its contract: none of the first k + 1 points is above it, and the
-- reader stands before the last of them.
use Rattle.std.specs.Prelude.{◌+◌, ◌≤◌}
use Rattle.day_runs.specs.Bounds.{Most}
use Rattle.day_runs.specs.Reading.{Passed}
use Rattle.day_runs.proofs.points.greatest_point.Given as goal

abbrev pub invariant-loop-k : goal.invariant-loop-k
invariant-loop-k g l =
    let m = g.P.Points in
    (l.k ≤ l.last) × Most (m.values l.initial.points) (l.k + 1) l.greatest
    × Passed l.k (m.ticks l.initial.points) (m.values l.initial.points) (m.left l.initial.points)
    (m.ticks l.points) (m.values l.points) (m.left l.points)
