-- `node_verdict::judge` meets its contract.
use mathlib.Core.Path.{sym, ◌∙◌}
use Rattle.plan_values.specs.{Formed.profile_in, Starts.product_fits, Starts.number_fits}
use Rattle.node_runs.specs.Finding.{node_fits}
use Rattle.node_runs.specs.Ready.{node_in, period_in, own_space, counted, stays_in}
use Rattle.node_verdict.specs.Judge.{away_border, told_home, told_skipped, told_blank, told_judged}
use Rattle.node_verdict.proofs.judge.Goals as goal

pub mark_home-requires-clause-formed : goal.mark_home-requires-clause-formed
mark_home-requires-clause-formed c = c.requires.at_border.prepared.check.formed

pub mark_home-requires-clause-started : goal.mark_home-requires-clause-started
mark_home-requires-clause-started c = c.requires.at_border.prepared.started

pub mark_home-requires-clause-i_lt_borders : goal.mark_home-requires-clause-i_lt_borders
mark_home-requires-clause-i_lt_borders c = (
  c.requires.at_border.prepared.number,
  node_in
      c.requires.at_border.prepared.check c.requires.limit_bound.1,
)

pub mark_home-requires-clause-space : goal.mark_home-requires-clause-space
mark_home-requires-clause-space c = (
  own_space c.requires.at_border.prepared.check
      c.requires.period_in_bounds.0 c.requires.period_in_bounds.1,
  period_in
      c.requires.at_border.prepared.check c.requires.rooms.bytes,
)

pub mark_home-requires-clause-u_bound : goal.mark_home-requires-clause-u_bound
mark_home-requires-clause-u_bound c = node_fits c.requires.at_border.prepared _ _ c.requires.node_bound

pub judge_marks-requires : goal.judge_marks-requires
judge_marks-requires c = stays_in c.mark_home.auto.marks c.requires.rooms.bytes

pub shape_of-so-then-node-target : goal.shape_of-so-then-node-target
shape_of-so-then-node-target c = c.mark_home.auto.so

pub shape_of-vo-then-node-target : goal.shape_of-vo-then-node-target
shape_of-vo-then-node-target c = c.mark_home.auto.vo

pub shape_of-marks-then-node-target : goal.shape_of-marks-then-node-target
shape_of-marks-then-node-target c = c.mark_home.auto.marks

pub returns-then-node-target : goal.returns-then-node-target
returns-then-node-target c = told_home c.requires.at_border.prepared _ _ c.requires.limit_bound.0 _
    c.if-node-target.true c.mark_home.ensures.0 c.mark_home.ensures.1 c.judge_marks.ensures

pub returns-then-limit-le-LESS : goal.returns-then-limit-le-LESS
returns-then-limit-le-LESS c = told_skipped c.requires.at_border.prepared _ _ c.requires.limit_bound.0
    _ c.if-node-target.false c.if-limit-le-LESS.true

pub overflow_mul-target : goal.overflow_mul-target
overflow_mul-target c = product_fits c.requires.at_border.prepared.check.formed
    c.requires.at_border.prepared.number (node_in c.requires.at_border.prepared.check
    c.requires.limit_bound.1)

pub overflow_add-target : goal.overflow_add-target
overflow_add-target c = number_fits c.requires.at_border.prepared.check.formed
    c.requires.at_border.prepared.number (node_in c.requires.at_border.prepared.check
    c.requires.limit_bound.1)

pub point_count-requires-clause-plan_laid : goal.point_count-requires-clause-plan_laid
point_count-requires-clause-plan_laid c = c.requires.at_border.prepared.check.formed.laid

pub point_count-requires-clause-k_lt_profiles : goal.point_count-requires-clause-k_lt_profiles
point_count-requires-clause-k_lt_profiles c = profile_in c.requires.at_border.prepared.check.formed _ _
    c.requires.at_border.prepared.number (node_in c.requires.at_border.prepared.check
    c.requires.limit_bound.1)

pub judge_blank-requires-clause-checkable : goal.judge_blank-requires-clause-checkable
judge_blank-requires-clause-checkable c = c.requires.at_border.prepared.check

pub judge_blank-requires-clause-chained : goal.judge_blank-requires-clause-chained
judge_blank-requires-clause-chained c = c.requires.at_border.chained

pub judge_blank-requires-clause-i_lt_borders : goal.judge_blank-requires-clause-i_lt_borders
judge_blank-requires-clause-i_lt_borders c = (
  c.requires.at_border.prepared.number,
  c.requires.limit_bound.1,
  sym c.point_count.ensures.0 ∙ c.if-point_count-eq0.true,
  away_border c.requires.at_border.prepared _ c.if-node-target.false,
)

pub judge_blank-requires-clause-period_in_bounds : goal.judge_blank-requires-clause-period_in_bounds
judge_blank-requires-clause-period_in_bounds c = c.requires.rooms.bytes

pub shape_of-marks-then-point_count-eq0 : goal.shape_of-marks-then-point_count-eq0
shape_of-marks-then-point_count-eq0 c = c.judge_blank.auto.marks

pub returns-then-point_count-eq0 : goal.returns-then-point_count-eq0
returns-then-point_count-eq0 c = told_blank c.requires.at_border.prepared _ _ c.requires.limit_bound.0 _
    (sym c.point_count.ensures.0 ∙ c.if-point_count-eq0.true) c.judge_blank.ensures

pub judge_node-requires-clause-node_lt_nodes : goal.judge_node-requires-clause-node_lt_nodes
judge_node-requires-clause-node_lt_nodes c =
    (c.requires.limit_bound.1, counted c.point_count.ensures.0 c.if-point_count-eq0.false)

pub judge_marks-requires-2 : goal.judge_marks-requires-2
judge_marks-requires-2 c = stays_in c.judge_node.auto.marks c.requires.rooms.bytes

pub shape_of-so : goal.shape_of-so
shape_of-so c = c.judge_node.auto.so

pub shape_of-vo : goal.shape_of-vo
shape_of-vo c = c.judge_node.auto.vo

pub shape_of-sa : goal.shape_of-sa
shape_of-sa c = c.judge_node.auto.sa

pub shape_of-va : goal.shape_of-va
shape_of-va c = c.judge_node.auto.va

pub shape_of-sh : goal.shape_of-sh
shape_of-sh c = c.judge_node.auto.sh

pub shape_of-vh : goal.shape_of-vh
shape_of-vh c = c.judge_node.auto.vh

pub shape_of-marks : goal.shape_of-marks
shape_of-marks c = c.judge_node.auto.marks

pub returns : goal.returns
returns c = told_judged c.requires.at_border.prepared _ _ c.requires.limit_bound.0 _ c.if-node-target.false
    (counted c.point_count.ensures.0 c.if-point_count-eq0.false) c.judge_node.ensures.0
    c.judge_node.ensures.1 c.judge_marks-2.ensures
