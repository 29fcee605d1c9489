-- `settle` meets its contract: the loop walks from each arc into v to the next, and those before have had
-- their turn.
use mathlib.Core.Path.{sym, ◌∙◌}
use native.Mathlib.Omega.{arith}
use Rattle.toward_list.specs.Seen.{seen_size}
use Rattle.toward_node.specs.Turn.{walking_start, walking_held, walking_next, walking_less}
use Rattle.toward_node.specs.Turn.{walking_end}
use Rattle.toward_node.proofs.settle.Goals as goal

pub copy_row-requires-clause-small : goal.copy_row-requires-clause-small
copy_row-requires-clause-small c = c.args.roads.now.ready.primed.town.small

pub copy_row-requires-clause-v_lt_nodes : goal.copy_row-requires-clause-v_lt_nodes
copy_row-requires-clause-v_lt_nodes c = (
  c.requires.0,
  seen_size _ c.requires.1,
  c.requires.4,
)

pub loop-a-init : goal.loop-a-init
loop-a-init c =
    walking_start c.args.roads.now.ready _ c.requires.0 c.requires.1
    c.requires.3 c.requires.4
    c.copy_row.ensures c.from-a.ensures

pub lower_tail-requires : goal.lower_tail-requires
lower_tail-requires c = (
  c.loop-a-test.true,
  c.loop-a.invariant.heights,
  walking_held
      c.args.roads.now.ready c.loop-a.invariant c.loop-a-test.true,
)

pub offset_bounds-roads-a : goal.offset_bounds-roads-a
offset_bounds-roads-a c =
    omega (
      arith,
      c.loop-a.invariant.within,
    )

pub bounds-roads-a : goal.bounds-roads-a
bounds-roads-a c =
    omega (
      arith,
      c.args.roads.now.ready.primed.town.small.arcs_most,
    )

pub loop-a-smaller : goal.loop-a-smaller
loop-a-smaller c =
    walking_less c.args.roads.now.ready c.loop-a.invariant c.loop-a-test.true c.from-a-in-loop-a.ensures

pub loop-a-preserved : goal.loop-a-preserved
loop-a-preserved c =
    walking_next c.args.roads.now.ready c.loop-a.invariant c.loop-a-test.true
    c.lower_tail.ensures c.from-a-in-loop-a.ensures

pub shape_of-work : goal.shape_of-work
shape_of-work c =
    seen_size _ c.loop-a.invariant.heights ∙ sym (seen_size _ c.requires.1)

pub returns : goal.returns
returns c = (
  walking_end c.args.roads.now.ready _ c.requires.0 c.requires.1 c.requires.2
      c.requires.3 c.loop-a.invariant
      c.loop-a-test.false,
  c.copy_row.ensures.long,
)
