-- `profile_runs::points::ProfilePoints::value` meets its contract.
use Rattle.theory_travel.specs.Table.{entry_start}
use Rattle.plan.specs.PlanWalk.{travel_there, travel_read}
use Rattle.profile_runs.proofs.points.ProfilePointsPoints.value.Goals as goal

pub field32-requires : goal.field32-requires
field32-requires c = let s = c.args.self.now in travel_there s.laid s.stands.0 s.stands.1

pub returns : goal.returns
returns c = let s = c.args.self.now in
    entry_start _ s.point _ (travel_read s.laid s.stands.0 s.stands.1 c.field32.ensures)
