-- `profile_runs::points::ProfilePoints::tick` meets its contract.
use Rattle.theory_travel.specs.Table.{entry_start}
use Rattle.plan.specs.PlanWalk.{tick_there, tick_read}
use Rattle.profile_runs.proofs.points.ProfilePointsPoints.tick.Goals as goal

pub field16-requires : goal.field16-requires
field16-requires c = let s = c.args.self.now in tick_there s.laid s.stands.0 s.stands.1

pub returns : goal.returns
returns c = let s = c.args.self.now in
    entry_start _ s.point _ (tick_read s.laid s.stands.0 s.stands.1 c.field16.ensures.0)
