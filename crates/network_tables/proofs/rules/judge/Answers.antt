-- `network_tables::rules::judge` meets its contract.
use mathlib.Core.Path.{◌∙◌}
use native.Mathlib.Omega.{arith}
use Rattle.network_rules.specs.Judge.{cell_taken, cells_passed, hours_taken, hours_passed, arc_taken}
use Rattle.network_rules.specs.Judge.{arcs_passed_lem, sum_taken, sum_passed, counted}
use Rattle.network_tables.specs.Cut.{cell_found, hours_found, arc_found, sum_found}
use Rattle.network_tables.specs.Cut.{counted_bare, points_judged}
use Rattle.network_tables.proofs.rules.judge.Goals as goal

pub returns-then-v-l : goal.returns-then-v-l
returns-then-v-l c =
    let p = c.requires in
    cell_taken p.sizes _ _ (cell_found p c.first_bad_cell-v.ensures)
    c.if-v-l.true c.refused.ensures

pub returns-then-u-l : goal.returns-then-u-l
returns-then-u-l c =
    let p = c.requires in
    cells_passed p.sizes _ _ (cell_found p c.first_bad_cell-v.ensures) c.if-v-l.false
    (hours_taken p.sizes _ _ (hours_found p c.first_bad_hours-u.ensures) c.if-u-l.true
    c.refused-then-u-l.ensures)

pub overflow_cast-a : goal.overflow_cast-a
overflow_cast-a c =
    omega (arith, c.requires.small)

pub returns-in-Err : goal.returns-in-Err
returns-in-Err c =
    let p = c.requires in
    let (inside, is) = c.in-Err.ensures in
    cells_passed p.sizes _ _ (cell_found p c.first_bad_cell-v.ensures) c.if-v-l.false
    (hours_passed p.sizes _ _ (hours_found p c.first_bad_hours-u.ensures) c.if-u-l.false
    (arc_taken p.sizes _ _ (arc_found p is) (omega (arith, p.sizes.arcs)) c.refused-in-Err.ensures))

pub overflow_cast-l : goal.overflow_cast-l
overflow_cast-l c =
    omega (arith, c.requires.small)

pub returns-then-sum-l : goal.returns-then-sum-l
returns-then-sum-l c =
    let p = c.requires in
    let (none, is) = c.in-Ok.ensures in
    cells_passed p.sizes _ _ (cell_found p c.first_bad_cell-v.ensures) c.if-v-l.false
    (hours_passed p.sizes _ _ (hours_found p c.first_bad_hours-u.ensures) c.if-u-l.false
    (arcs_passed_lem p.sizes _ _ (arc_found p none) (omega (arith, p.sizes.arcs))
    (sum_taken p.sizes _ _ (sum_found p is) c.if-sum-l.true c.refused-then-sum-l.ensures)))

pub judge_points-requires-clause-counted : goal.judge_points-requires-clause-counted
judge_points-requires-clause-counted c =
    let p = c.requires in
    let (none, is) = c.in-Ok.ensures in
    counted_bare p
    (counted p.sizes _ _ (arc_found p none) (omega (arith, p.sizes.arcs)) (sum_found p is) c.if-sum-l.false)

pub judge_points-requires-clause-period_nonzero : goal.judge_points-requires-clause-period_nonzero
judge_points-requires-clause-period_nonzero c =
    let p = c.requires in (p.small.period_some, p.small.period_most)

pub judge_points-requires-clause-travels_len : goal.judge_points-requires-clause-travels_len
judge_points-requires-clause-travels_len c =
    let p = c.requires in (p.travels_long ∙ p.sizes.points, omega (arith, p.small, p.sizes.points))

pub returns : goal.returns
returns c =
    let p = c.requires in
    let (none, is) = c.in-Ok.ensures in
    cells_passed p.sizes _ _ (cell_found p c.first_bad_cell-v.ensures) c.if-v-l.false
    (hours_passed p.sizes _ _ (hours_found p c.first_bad_hours-u.ensures) c.if-u-l.false
    (arcs_passed_lem p.sizes _ _ (arc_found p none) (omega (arith, p.sizes.arcs))
    (sum_passed p.sizes _ _ (sum_found p is) c.if-sum-l.false
    (points_judged p c.judge_points.ensures))))
