-- `profile_runs::fill_profile` meets its contract: the points are read where the table says.
use native.Mathlib.Omega.{arith}
use Rattle.std.proofs.Common.{refl, rules}
use Rattle.plan_values.specs.{Starts.starting, Formed.profile_in}
use Rattle.profile_runs.specs.Numbers.{points_day, points_in, runs_number}
use Rattle.profile_runs.proofs.fill_profile.Goals as goal

pub overflow_mul-i : goal.overflow_mul-i
overflow_mul-i c = search starting

pub overflow_add-i : goal.overflow_add-i
overflow_add-i c = search starting

pub point_count-count-requires : goal.point_count-count-requires
point_count-count-requires c = search (starting, rules)

pub fill_day-requires-clause-day : goal.fill_day-requires-clause-day
fill_day-requires-clause-day c =
    let k = profile_in c.requires.formed _ _ c.requires.i_lt_borders.0 c.requires.i_lt_borders.1 in
    let some = c.requires.i_lt_borders.2 in
    let e = c.first_point-first.ensures in
    let inside = points_in c.requires.formed k refl c.point_count-count.ensures.0 some in
    rw (e.0, e.1, e.2)
    (points_day c.requires.formed k refl c.point_count-count.ensures.0 some, omega (arith, inside))

pub fill_day-requires-clause-space : goal.fill_day-requires-clause-space
fill_day-requires-clause-space c =
    (c.requires.space, omega (arith, c.point_count-count.ensures.0, c.requires.u_bound))

pub returns : goal.returns
returns c =
    let k = profile_in c.requires.formed _ _ c.requires.i_lt_borders.0 c.requires.i_lt_borders.1 in
    let e = c.first_point-first.ensures in (
      runs_number c.requires.formed k refl c.point_count-count.ensures.0 c.requires.i_lt_borders.2
          (rw (e.0, e.2) at c.fill_day.ensures.0),
      omega (arith, c.point_count-count.ensures.0, c.fill_day.ensures.1),
    )
