-- `plan::read::travel` meets its contract: the entry stands in the file, and its field is the plan's.
use native.Mathlib.Omega.{arith}
use Rattle.plan.specs.PlanDecode.{point_in, travel_is}
use Rattle.plan.proofs.read.travel.Goals as goal

pub offset-requires : goal.offset-requires
offset-requires c = let e = point_in c.requires.plan_laid c.requires.q_lt_points in
    rw c.points_run.ensures (e.pos, e.fit, e.near)

pub overflow_add-offset : goal.overflow_add-offset
overflow_add-offset c =
    let o = rw c.points_run.ensures at c.offset.ensures in
    omega (arith, point_in c.requires.plan_laid c.requires.q_lt_points, o)

pub le32-requires : goal.le32-requires
le32-requires c =
    let o = rw c.points_run.ensures at c.offset.ensures in
    omega (arith, point_in c.requires.plan_laid c.requires.q_lt_points, o)

pub returns : goal.returns
returns c =
    let o = rw c.points_run.ensures at c.offset.ensures in
    travel_is c.requires.plan_laid c.requires.q_lt_points (rw o at c.le32.ensures)
