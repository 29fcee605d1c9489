-- `work_out` meets its contract: what is left to do falls with each turn, and where no dirty node is near
-- enough the numbers that are wanted are least, once they all stand in the list.
use mathlib.Core.Path.{refl, sym, ◌∙◌}
use Prim.Native.Nat.{◌≤◌}
use native.Mathlib.Omega.{arith}
use lib.ListN.{length}
use Rattle.toward_list.specs.Seen.{seen_size, shown_bounds, shown_worked}
use Rattle.toward_node.specs.Turn.{waiting_start, waiting_next}
use Rattle.toward_node.specs.Turn.{waiting_bounds, waiting_end}
use Rattle.toward_node.proofs.work_out.Goals as goal

pub bar_of-bar-requires : goal.bar_of-bar-requires
bar_of-bar-requires c = c.args.roads.now.ready.primed.town.small.nodes_most

pub loop-v-init : goal.loop-v-init
loop-v-init c = (
  rw (c.requires.3, c.requires.4)
      (waiting_start c.args.roads.now.ready c.requires.0 c.requires.1 c.fill_row.ensures
      (rw c.requires.4 at c.bar_of-bar.ensures)),
  refl,
)

pub settle-requires : goal.settle-requires
settle-requires c =
    let long : c.args.roads.now.layout.period ≤ length c.loop-v.hs = omega (
      arith,
      c.loop-v.invariant.1,
      c.requires.2,
    ) in (
      c.loop-v-test.true,
      c.loop-v.invariant.0.heights,
      c.loop-v.invariant.0.lows,
      c.loop-v.invariant.0.found.dirty c.loop-v-test.true,
      long,
    )

pub bar_of-bar-requires-in-loop-v : goal.bar_of-bar-requires-in-loop-v
bar_of-bar-requires-in-loop-v c =
    c.args.roads.now.ready.primed.town.small.nodes_most

pub nearest-v-requires : goal.nearest-v-requires
nearest-v-requires c =
    c.args.roads.now.ready.primed.town.small.nodes_most

pub loop-v-smaller : goal.loop-v-smaller
loop-v-smaller c = c.settle.ensures.0.lighter

pub loop-v-preserved : goal.loop-v-preserved
loop-v-preserved c = (
  waiting_next c.args.roads.now.ready c.loop-v.invariant.0 c.settle.ensures.0 c.bar_of-bar-in-loop-v.ensures
      c.nearest-v.ensures,
  c.settle.ensures.1 ∙ c.loop-v.invariant.1,
)

pub show_wanted-requires-clause-small : goal.show_wanted-requires-clause-small
show_wanted-requires-clause-small c = c.args.roads.now.ready.primed.town.small

pub show_wanted-requires-clause-work_len : goal.show_wanted-requires-clause-work_len
show_wanted-requires-clause-work_len c = seen_size _ c.loop-v.invariant.0.heights

pub shape_of-work : goal.shape_of-work
shape_of-work c =
    c.show_wanted.ensures.long ∙ seen_size _ c.loop-v.invariant.0.heights
    ∙ sym c.requires.1

pub returns : goal.returns
returns c = (
  shown_worked c.show_wanted.ensures c.args.roads.now.ready.primed.town.sizes.nodes
      c.args.roads.now.ready.primed.town.sizes.period
      (waiting_end c.args.roads.now.ready c.loop-v.invariant.0 c.loop-v-test.false),
  λ all. shown_bounds c.show_wanted.ensures all (waiting_bounds c.args.roads.now.ready c.loop-v.invariant.0
      c.loop-v-test.false all),
  c.loop-v.invariant.1,
)
