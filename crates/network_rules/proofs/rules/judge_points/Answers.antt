-- `network_rules::rules::judge_points` meets its contract.
use mathlib.Core.Path.{refl}
use native.Mathlib.Omega.{arith}
use Rattle.network.specs.Decode.{laid_sizes, laid_small}
use Rattle.network_rules.specs.Judge.{point_taken, late_taken, points_passed}
use Rattle.network_rules.proofs.rules.judge_points.Goals as goal

pub returns-then-is_steady : goal.returns-then-is_steady
returns-then-is_steady c = c.is_steady.ensures c.if-is_steady.true

pub overflow_cast-bad : goal.overflow_cast-bad
overflow_cast-bad c = omega (
  arith,
  c.in-Err.ensures.0,
  laid_small c.requires.laid,
  (laid_sizes c.requires.laid).points,
)

pub returns-in-Err : goal.returns-in-Err
returns-in-Err c = point_taken _ _ _ c.in-Err.ensures c.refused.ensures

pub overflow_cast-late : goal.overflow_cast-late
overflow_cast-late c =
    omega (arith, laid_small c.requires.laid)

pub returns-then-late-l : goal.returns-then-late-l
returns-then-late-l c =
    late_taken _ (laid_sizes c.requires.laid).points _ _ c.in-Ok.ensures c.if-late-l.true
    c.refused-then-late-l.ensures

pub returns : goal.returns
returns c = points_passed _ (laid_sizes c.requires.laid).points _ _ c.in-Ok.ensures c.if-late-l.false refl
