-- `arc_runs::fill_arc` meets its contract: the arc's points are read where the table says.
use native.Mathlib.Omega.{arith}
use Rattle.std.proofs.Common.{refl}
use Rattle.arc_runs.specs.Travels.{points_day, points_in, runs_narrow, runs_told, runs_short}
use Rattle.day_slopes.specs.Runs.{runs_few}
use Rattle.arc_runs.proofs.fill_arc.Goals as goal

pub fill_day-n-requires-clause-day : goal.fill_day-n-requires-clause-day
fill_day-n-requires-clause-day c =
    let day = points_day c.requires.town c.requires.arc_lt_arcs.0 c.args.points.now _ _ refl
    c.requires.arc_lt_arcs.1 c.count-count.ensures.0 in
    let inside = points_in c.requires.town c.requires.arc_lt_arcs.0 c.args.points.now _ _ refl
    c.requires.arc_lt_arcs.1 c.count-count.ensures.0 in
    let e = c.first_point-first.ensures in
    rw (e.0, e.1, e.2) (day, omega (arith, inside))

pub fill_day-n-requires-clause-space : goal.fill_day-n-requires-clause-space
fill_day-n-requires-clause-space c =
    (c.requires.space.0, omega (arith, c.count-count.ensures.0, c.requires.arc_bound))

pub narrow-requires : goal.narrow-requires
narrow-requires c =
    let e = c.first_point-first.ensures in
    let runs = rw (e.0, e.2) at c.fill_day-n.ensures.0 in (
      omega (arith, runs_few runs.grid, c.fill_day-n.auto.values, c.requires.space.0.in_v),
      omega (arith, runs_few runs.grid, c.requires.space.1),
      runs_narrow c.requires.town c.requires.arc_lt_arcs.0 c.args.points.now _ _ refl
          c.requires.arc_lt_arcs.1 c.count-count.ensures.0 runs,
    )

pub returns : goal.returns
returns c =
    let e = c.first_point-first.ensures in
    let runs = rw (e.0, e.2) at c.fill_day-n.ensures.0 in (
      runs_told c.requires.town c.requires.arc_lt_arcs.0 c.args.points.now _ _ refl
          c.requires.arc_lt_arcs.1 c.count-count.ensures.0 runs c.narrow.ensures,
      runs_short c.requires.town c.requires.arc_lt_arcs.0 c.args.points.now _ _ refl
          c.requires.arc_lt_arcs.1 c.count-count.ensures.0 runs c.narrow.ensures,
      omega (arith, c.count-count.ensures.0, c.fill_day-n.ensures.1),
    )
