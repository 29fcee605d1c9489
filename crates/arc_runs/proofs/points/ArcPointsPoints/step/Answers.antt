-- `arc_runs::points::ArcPoints::step` meets its contract.
use native.Mathlib.Omega.{arith}
use Rattle.file_blocks.specs.Walk.{walk_first}
use Rattle.day_runs.specs.Reading.{passed_entries}
use Rattle.arc_runs.specs.Points.{point_near, step_may, step_on}
use Rattle.arc_runs.proofs.points.ArcPointsPoints.step.Goals as goal

pub next-self-requires : goal.next-self-requires
next-self-requires c = let s = c.args.self.now in
    step_may s.laid s.point 0 (omega (arith, s.stands.0)) (walk_first _ _ _ _ s.stands.1)

pub overflow_add-self : goal.overflow_add-self
overflow_add-self c = let s = c.args.self.now in omega (arith, point_near s.laid s.stands.0)

pub invariant_of-self : goal.invariant_of-self
invariant_of-self c = let s = c.args.self.now in
    record {
      laid = s.laid;
      stands = (
        omega (arith, c.requires),
        step_on s.laid s.point 0 (omega (arith, s.stands.0)) (walk_first _ _ _ _ s.stands.1)
            c.next-self.ensures,
      );
    }

pub returns : goal.returns
returns c = passed_entries _ _ _ _ c.requires
