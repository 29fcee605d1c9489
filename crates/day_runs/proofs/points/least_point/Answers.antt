-- `day_runs::points::least_point` meets its contract: none of the first k + 1 points is below it, and the
-- reader stands before the last of them.
use Rattle.std.specs.Prelude.{◌≡◌, ◌+◌}
use Rattle.std.proofs.Common.{arith, rules}
use Rattle.day_runs.specs.Bounds.{least_one, least_more}
use Rattle.day_runs.specs.Reading.{passed_none, passed_next, value_read}
use Rattle.day_runs.proofs.points.least_point.Goals as goal

pub loop-k-init : goal.loop-k-init
loop-k-init g c = (search rules, least_one _ _ c.value-least.ensures, passed_none)

pub step-requires : goal.step-requires
step-requires g c = omega (arith, c.loop-k.invariant.2.left)

pub value-requires : goal.value-requires
value-requires g c = omega (arith, c.loop-k.invariant.2.left, c.step.ensures.left)

pub loop-k-preserved : goal.loop-k-preserved
loop-k-preserved g c =
    let passed = passed_next c.loop-k.invariant.2 c.step.ensures in (
      search rules,
      least_more _ _ _ _ _ c.loop-k.invariant.1 (value_read passed c.value.ensures) c.min-least.ensures,
      passed,
    )

pub returns : goal.returns
returns g c = let e : c.loop-k.k + 1 ≡ c.args.count = omega arith in
    rw e at c.loop-k.invariant.1
