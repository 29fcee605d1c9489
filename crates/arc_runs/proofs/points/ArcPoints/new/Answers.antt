-- `arc_runs::points::ArcPoints::new` meets its contract.
use lib.{Dec.lit<, Dec.lit≤}
use Rattle.arc_runs.specs.Points.{point_near}
use Rattle.arc_runs.proofs.points.ArcPoints.new.Goals as goal

pub new-requires : goal.new-requires
new-requires c = (lit< tt, lit≤ tt, point_near c.requires.laid c.requires.q_lt_points)
