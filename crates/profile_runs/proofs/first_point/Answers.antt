-- `profile_runs::first_point` meets its contract: the points are read where the table says.
use native.Mathlib.Omega.{arith}
use Rattle.std.proofs.Common.{◌∙◌, refl}
use Rattle.plan_values.specs.{Formed.profile_in, Starts.start_read}
use Rattle.profile_runs.specs.Numbers.{points_day, points_in}
use Rattle.profile_runs.proofs.first_point.Goals as goal

pub new-requires-clause-laid : goal.new-requires-clause-laid
new-requires-clause-laid c = c.requires.formed.laid

pub new-requires-clause-q_lt_points : goal.new-requires-clause-q_lt_points
new-requires-clause-q_lt_points c =
    let k = profile_in c.requires.formed _ _ c.requires.i_lt_borders.0 c.requires.i_lt_borders.1 in
    let from = start_read c.requires.formed c.requires.i_lt_borders.0 c.requires.i_lt_borders.1
    c.requires.started refl in
    let day = points_day c.requires.formed k from refl c.requires.i_lt_borders.2 in
    omega (arith, day.some, points_in c.requires.formed k from refl c.requires.i_lt_borders.2)

pub returns : goal.returns
returns c = (
  c.new.ensures.0,
  c.new.ensures.1,
  c.new.ensures.2 ∙ start_read c.requires.formed c.requires.i_lt_borders.0 c.requires.i_lt_borders.1
      c.requires.started refl,
)
