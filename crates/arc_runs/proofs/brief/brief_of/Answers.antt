-- `arc_runs::brief::brief_of` meets its contract: the arc's points are read where the table says.
use native.Mathlib.Omega.{arith}
use Rattle.std.proofs.Common.{refl}
use Rattle.arc_runs.specs.Travels.{points_day, points_in, floor_travel, ceiling_travel}
use Rattle.arc_runs.specs.Brief.{brief_between}
use Rattle.arc_runs.proofs.brief.brief_of.Goals as goal

pub least_point-requires : goal.least_point-requires
least_point-requires c =
    let day = points_day c.requires.town c.requires.arc_lt_arcs.0 c.args.points.now _ _ refl
    c.requires.arc_lt_arcs.1 c.count-count.ensures.0 in
    let inside = points_in c.requires.town c.requires.arc_lt_arcs.0 c.args.points.now _ _ refl
    c.requires.arc_lt_arcs.1 c.count-count.ensures.0 in
    let e = c.first_point-first.ensures in
    rw (e.1, e.2) (day.some, omega (arith, inside))

pub greatest_point-requires : goal.greatest_point-requires
greatest_point-requires c =
    let day = points_day c.requires.town c.requires.arc_lt_arcs.0 c.args.points.now _ _ refl
    c.requires.arc_lt_arcs.1 c.count-count.ensures.0 in
    let inside = points_in c.requires.town c.requires.arc_lt_arcs.0 c.args.points.now _ _ refl
    c.requires.arc_lt_arcs.1 c.count-count.ensures.0 in
    let e = c.first_point-first.ensures in
    rw (e.1, e.2) (day.some, omega (arith, inside))

pub returns : goal.returns
returns c =
    let e = c.first_point-first.ensures in
    brief_between c.between.ensures
    (floor_travel c.requires.town c.requires.arc_lt_arcs.0 c.args.points.now _ _ refl
    c.requires.arc_lt_arcs.1 c.count-count.ensures.0
    (rw (e.0, e.2) at c.least_point.ensures))
    (ceiling_travel c.requires.town c.requires.arc_lt_arcs.0 c.args.points.now _ _ refl
    c.requires.arc_lt_arcs.1 c.count-count.ensures.0
    (rw (e.0, e.2) at c.greatest_point.ensures))
