-- `plan_rising::rising::has_points` meets its contract.
use mathlib.Core.Path.{◌∙◌}
use native.Mathlib.Omega.{arith}
use Rattle.std.specs.Prelude.{nat_lt}
use Rattle.theory_breaks.specs.Tally.{flag_of, flag_few}
use Rattle.plan_rising.proofs.rising.has_points.Goals as goal

pub returns : goal.returns
returns c = (
  c.from.ensures ∙ flag_of _,
  omega (arith, c.from.ensures ∙ flag_of (nat_lt 0 c.args.count), flag_few (nat_lt 0 c.args.count)),
)
