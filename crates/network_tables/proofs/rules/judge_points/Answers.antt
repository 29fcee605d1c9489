-- `network_tables::rules::judge_points` meets its contract.
use mathlib.Core.Path.{refl, sym}
use native.Mathlib.Omega.{arith}
use Rattle.network_rules.specs.Judge.{point_taken, late_taken, points_passed}
use Rattle.network_tables.proofs.rules.judge_points.Goals as goal

pub returns-then-is_steady : goal.returns-then-is_steady
returns-then-is_steady c = sym (c.is_steady.ensures c.if-is_steady.true)

pub overflow_cast-bad : goal.overflow_cast-bad
overflow_cast-bad c = omega (arith, c.in-Err.ensures.0, c.requires.travels_len)

pub returns-in-Err : goal.returns-in-Err
returns-in-Err c = point_taken _ _ _ c.in-Err.ensures c.refused.ensures

pub returns-then-late-ticks : goal.returns-then-late-ticks
returns-then-late-ticks c =
    late_taken _ refl _ _ c.in-Ok.ensures c.if-late-ticks.true c.refused-then-late-ticks.ensures

pub returns : goal.returns
returns c = points_passed _ refl _ _ c.in-Ok.ensures c.if-late-ticks.false refl
