-- `arc_runs::points::ArcPoints::value` meets its contract.
use Rattle.theory_travel.specs.Table.{entry_start}
use Rattle.arc_runs.specs.Points.{travel_there, travel_read}
use Rattle.arc_runs.proofs.points.ArcPointsPoints.value.Goals as goal

pub field16-requires : goal.field16-requires
field16-requires c = let s = c.args.self.now in travel_there s.laid s.stands.0 s.stands.1

pub returns : goal.returns
returns c = let s = c.args.self.now in
    entry_start _ s.point _ (travel_read s.laid s.stands.0 s.stands.1 c.field16.ensures.0)
