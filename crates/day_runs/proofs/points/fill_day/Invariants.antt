-- `day_runs::points::fill_day` meets its contract: before point k the runs are the day's, and the reader
-- stands before that point.
use Rattle.std.specs.Prelude.{◌≡◌, ◌+◌, ◌≤◌, length}
use Rattle.day_runs.specs.Filling.{Space, Filling}
use Rattle.day_runs.specs.Reading.{Passed}
use Rattle.day_runs.proofs.points.fill_day.Given as goal

abbrev pub invariant-loop-k : goal.invariant-loop-k
invariant-loop-k g l =
    let m = g.P.Points in
    (l.k ≤ l.last) × (length l.starts ≡ length l.initial.starts) × (length l.values ≡ length l.initial.values)
    × Space l.starts l.values l.period
    × Filling (m.ticks l.initial.points) (m.values l.initial.points) l.count l.period l.starts l.values l.n
    l.k l.a l.v
    × (l.finds ≡ l.initial.finds + l.k)
    × Passed l.k (m.ticks l.initial.points) (m.values l.initial.points) (m.left l.initial.points)
    (m.ticks l.points) (m.values l.points) (m.left l.points)
