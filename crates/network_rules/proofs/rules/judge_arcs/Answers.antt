-- `network_rules::rules::judge_arcs` meets its contract.
use mathlib.Core.Path.{sym}
use native.Mathlib.Omega.{arith}
use Rattle.network.specs.Decode.{laid_sizes, laid_small}
use Rattle.network_rules.specs.Judge.{arc_taken, arcs_passed_lem, sum_taken, sum_passed, counted}
use Rattle.network_rules.proofs.rules.judge_arcs.Goals as goal

pub overflow_cast-a : goal.overflow_cast-a
overflow_cast-a c = omega (arith, laid_small c.requires)

pub returns-in-Err : goal.returns-in-Err
returns-in-Err c =
    arc_taken (laid_sizes c.requires) _ _ c.in-Err.ensures.1 c.in-Err.ensures.0 c.refused.ensures

pub overflow_cast-l : goal.overflow_cast-l
overflow_cast-l c = omega (arith, laid_small c.requires)

pub returns-then-sum-l : goal.returns-then-sum-l
returns-then-sum-l c =
    arcs_passed_lem (laid_sizes c.requires) _ _ (sym c.in-Ok.ensures.none) (omega arith)
    (sum_taken (laid_sizes c.requires) _ _ c.in-Ok.ensures.is c.if-sum-l.true c.refused-then-sum-l.ensures)

pub judge_points-requires-clause-counted : goal.judge_points-requires-clause-counted
judge_points-requires-clause-counted c =
    counted (laid_sizes c.requires) _ _ (sym c.in-Ok.ensures.none) (omega arith)
    c.in-Ok.ensures.is c.if-sum-l.false

pub returns : goal.returns
returns c =
    arcs_passed_lem (laid_sizes c.requires) _ _ (sym c.in-Ok.ensures.none) (omega arith)
    (sum_passed (laid_sizes c.requires) _ _ c.in-Ok.ensures.is c.if-sum-l.false c.judge_points.ensures)
