-- `arc_runs::first_point` meets its contract: the arc's points are read where the table says.
use native.Mathlib.Omega.{arith}
use Rattle.std.proofs.Common.{◌∙◌, refl}
use Rattle.arc_runs.specs.Travels.{points_day, points_in}
use Rattle.arc_runs.proofs.first_point.Goals as goal

pub new-requires-clause-q_lt_points : goal.new-requires-clause-q_lt_points
new-requires-clause-q_lt_points c =
    let day = points_day c.requires.town c.requires.arc_lt_arcs.0 c.args.points.now _ _ refl
    c.requires.arc_lt_arcs.1 refl in
    let inside = points_in c.requires.town c.requires.arc_lt_arcs.0 c.args.points.now _ _ refl
    c.requires.arc_lt_arcs.1 refl in
    omega (arith, c.from.ensures, day.some, inside)

pub returns : goal.returns
returns c = (c.new.ensures.0, c.new.ensures.1, c.new.ensures.2 ∙ c.from.ensures)
