-- `profile_runs::points::ProfilePoints::new` meets its contract.
use lib.{Dec.lit<, Dec.lit≤}
use Rattle.plan.specs.PlanWalk.{point_near}
use Rattle.profile_runs.proofs.points.ProfilePoints.new.Goals as goal

pub new-requires : goal.new-requires
new-requires c = (lit< tt, lit≤ tt, point_near c.requires.laid c.requires.q_lt_points)
