-- `node_runs::judge_node` meets its contract: the walk stands at arc a, and the arcs before it are met.
use mathlib.Core.Path.{refl, ◌∙◌}
use Rattle.plan_tests.specs.{Giving.aimed_cell}
use Rattle.node_runs.specs.Finding.{counted_none, node_fits, arcs_fit, walk_room}
use Rattle.node_runs.specs.Finding.{walk_next, walk_end, judged_finds}
use Rattle.node_runs.specs.Judged.{judge_first, judge_less, judge_next, judge_end}
use Rattle.node_runs.specs.Ready.{node_in, node_place, arc_place, period_in, own_space}
use Rattle.node_runs.specs.Ready.{own_here, own_at, blank_here, stays_on, rooms_stay}
use Rattle.node_runs.proofs.judge_node.Goals as goal

pub open_node-own-requires-clause-formed : goal.open_node-own-requires-clause-formed
open_node-own-requires-clause-formed c = c.requires.at_border.prepared.check.formed

pub open_node-own-requires-clause-started : goal.open_node-own-requires-clause-started
open_node-own-requires-clause-started c = c.requires.at_border.prepared.started

pub open_node-own-requires-clause-i_lt_borders : goal.open_node-own-requires-clause-i_lt_borders
open_node-own-requires-clause-i_lt_borders c = (
  c.requires.at_border.prepared.number,
  node_in
      c.requires.at_border.prepared.check c.requires.node_lt_nodes.0,
  c.requires.node_lt_nodes.1,
)

pub open_node-own-requires-clause-space : goal.open_node-own-requires-clause-space
open_node-own-requires-clause-space c = (
  own_space c.requires.at_border.prepared.check
      c.requires.period_in_bounds.0 c.requires.period_in_bounds.1,
  period_in
      c.requires.at_border.prepared.check c.requires.rooms.bytes,
)

pub open_node-own-requires-clause-u_bound : goal.open_node-own-requires-clause-u_bound
open_node-own-requires-clause-u_bound c = node_fits c.requires.at_border.prepared _ _ c.requires.node_bound

pub offset_bounds-first-node : goal.offset_bounds-first-node
offset_bounds-first-node c =
    (node_place c.requires.at_border.prepared.check c.requires.node_lt_nodes.0).0

pub bounds-first-node : goal.bounds-first-node
bounds-first-node c =
    (node_place c.requires.at_border.prepared.check c.requires.node_lt_nodes.0).1

pub loop-a-init : goal.loop-a-init
loop-a-init c = (
  record { arc_s = refl; arc_v = refl; head_s = refl; head_v = refl; bytes = refl },
  judge_first c.requires.at_border.prepared.check.town c.requires.at_border.chained
      c.requires.node_lt_nodes.0 c.from-a.ensures
      (blank_here c.requires.at_border.prepared.check c.open_node-own.ensures.1).none,
  counted_none _ _,
)

pub judge_arc-requires-clause-prepared : goal.judge_arc-requires-clause-prepared
judge_arc-requires-clause-prepared c = c.requires.at_border.prepared

pub judge_arc-requires-clause-briefs : goal.judge_arc-requires-clause-briefs
judge_arc-requires-clause-briefs c = c.requires.briefs

pub judge_arc-requires-clause-arc_lt_arcs : goal.judge_arc-requires-clause-arc_lt_arcs
judge_arc-requires-clause-arc_lt_arcs c = (
  c.loop-a-test.true,
  own_at (c.loop-a.invariant.1.here c.loop-a-test.true)
      (own_here c.requires.at_border.prepared.check c.requires.node_lt_nodes.1 c.open_node-own.ensures.0
      c.open_node-own.auto.so
      c.open_node-own.auto.vo c.requires.period_in_bounds.0 c.requires.period_in_bounds.1),
)

pub judge_arc-requires-clause-rooms : goal.judge_arc-requires-clause-rooms
judge_arc-requires-clause-rooms c = rooms_stay c.requires.rooms c.open_node-own.auto.marks
    c.loop-a.invariant.0

pub judge_arc-requires-clause-arc_bound : goal.judge_arc-requires-clause-arc_bound
judge_arc-requires-clause-arc_bound c = walk_room c.loop-a.invariant.1 c.loop-a.invariant.2
    c.loop-a-test.true (arcs_fit c.requires.at_border.prepared _ _ _ c.open_node-own.ensures.2
    c.requires.node_bound)

pub offset_bounds-next-a : goal.offset_bounds-next-a
offset_bounds-next-a c =
    (arc_place c.requires.at_border.prepared.check c.loop-a-test.true).0

pub bounds-next-a : goal.bounds-next-a
bounds-next-a c =
    (arc_place c.requires.at_border.prepared.check c.loop-a-test.true).1

pub loop-a-smaller : goal.loop-a-smaller
loop-a-smaller c = judge_less c.loop-a.invariant.1 c.loop-a-test.true _ c.from-a-in-loop-a.ensures

pub loop-a-preserved : goal.loop-a-preserved
loop-a-preserved c = (
  stays_on c.loop-a.invariant.0 c.judge_arc.auto.sa c.judge_arc.auto.va c.judge_arc.auto.sh
      c.judge_arc.auto.vh c.judge_arc.auto.marks,
  judge_next c.loop-a.invariant.1 c.loop-a-test.true _ c.from-a-in-loop-a.ensures c.judge_arc.ensures.0,
  walk_next c.loop-a.invariant.1 c.loop-a.invariant.2 c.loop-a-test.true _ c.from-a-in-loop-a.ensures
      c.judge_arc.ensures.1,
)

pub shape_of-so : goal.shape_of-so
shape_of-so c = c.open_node-own.auto.so

pub shape_of-vo : goal.shape_of-vo
shape_of-vo c = c.open_node-own.auto.vo

pub shape_of-sa : goal.shape_of-sa
shape_of-sa c = c.loop-a.invariant.0.arc_s

pub shape_of-va : goal.shape_of-va
shape_of-va c = c.loop-a.invariant.0.arc_v

pub shape_of-sh : goal.shape_of-sh
shape_of-sh c = c.loop-a.invariant.0.head_s

pub shape_of-vh : goal.shape_of-vh
shape_of-vh c = c.loop-a.invariant.0.head_v

pub shape_of-marks : goal.shape_of-marks
shape_of-marks c = c.loop-a.invariant.0.bytes ∙ c.open_node-own.auto.marks

pub returns : goal.returns
returns c = (
  judge_end c.loop-a.invariant.1 (aimed_cell c.requires.at_border.prepared.aimed) c.loop-a-test.false,
  judged_finds c.requires.at_border.prepared _ c.open_node-own.ensures.2 (walk_end c.loop-a.invariant.1
      c.loop-a.invariant.2),
)
