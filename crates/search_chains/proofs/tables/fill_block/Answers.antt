-- `search_arcs::tables::fill_block` meets its contract: after k arcs of the block, from its last on, the
-- tables are those of the arcs behind the ones that are left.
use Prim.Native.Nat.{◌+◌, ◌-◌, ◌*◌, ◌<◌}
use native.Mathlib.Omega.{arith}
use Rattle.network.specs.Limits.{most_nodes}
use Rattle.file_blocks.specs.Kind.{arc_per}
use Rattle.search_chains.specs.Town.{tail_node, head_node}
use Rattle.search_chains.specs.Tables.{filling_at, count_held, filling_more}
use borrow.Author.Rules.{rules}
use Rattle.search_chains.proofs.tables.fill_block.Goals as goal

pub loop-k-init : goal.loop-k-init
loop-k-init c = (search rules, filling_at c.requires.filling _ (search rules))

pub offset_bounds-first-v : goal.offset_bounds-first-v
offset_bounds-first-v c =
    let below : arc_per * c.args.j
    + (c.args.m - 1 - c.loop-k.k)
    < c.args.l.arcs =
    omega arith in
    let ends : (c.entry_in-arc.result.tail < most_nodes) × (c.entry_in-arc.result.head < most_nodes) = (
      omega (arith, tail_node c.requires.town _ _ below c.entry_in-arc.ensures.tail, c.requires.town.small.nodes_most),
      omega (arith, head_node c.requires.town _ _ below c.entry_in-arc.ensures.head, c.requires.town.small.nodes_most),
    ) in
    omega (arith, ends)

pub bounds-first-v : goal.bounds-first-v
bounds-first-v c =
    let below : arc_per * c.args.j
    + (c.args.m - 1 - c.loop-k.k)
    < c.args.l.arcs =
    omega arith in
    let ends : (c.entry_in-arc.result.tail < most_nodes) × (c.entry_in-arc.result.head < most_nodes) = (
      omega (arith, tail_node c.requires.town _ _ below c.entry_in-arc.ensures.tail, c.requires.town.small.nodes_most),
      omega (arith, head_node c.requires.town _ _ below c.entry_in-arc.ensures.head, c.requires.town.small.nodes_most),
    ) in
    omega (arith, ends)

pub offset_bounds-first-v-in-loop-k : goal.offset_bounds-first-v-in-loop-k
offset_bounds-first-v-in-loop-k c =
    let below : arc_per * c.args.j
    + (c.args.m - 1 - c.loop-k.k)
    < c.args.l.arcs =
    omega arith in
    let ends : (c.entry_in-arc.result.tail < most_nodes) × (c.entry_in-arc.result.head < most_nodes) = (
      omega (arith, tail_node c.requires.town _ _ below c.entry_in-arc.ensures.tail, c.requires.town.small.nodes_most),
      omega (arith, head_node c.requires.town _ _ below c.entry_in-arc.ensures.head, c.requires.town.small.nodes_most),
    ) in
    omega (arith, ends)

pub bounds-first-v-in-loop-k : goal.bounds-first-v-in-loop-k
bounds-first-v-in-loop-k c =
    let below : arc_per * c.args.j
    + (c.args.m - 1 - c.loop-k.k)
    < c.args.l.arcs =
    omega arith in
    let ends : (c.entry_in-arc.result.tail < most_nodes) × (c.entry_in-arc.result.head < most_nodes) = (
      omega (arith, tail_node c.requires.town _ _ below c.entry_in-arc.ensures.tail, c.requires.town.small.nodes_most),
      omega (arith, head_node c.requires.town _ _ below c.entry_in-arc.ensures.head, c.requires.town.small.nodes_most),
    ) in
    omega (arith, ends)

pub overflow_cast-heads : goal.overflow_cast-heads
overflow_cast-heads c =
    let below : arc_per * c.args.j
    + (c.args.m - 1 - c.loop-k.k)
    < c.args.l.arcs =
    omega arith in
    let ends : (c.entry_in-arc.result.tail < most_nodes) × (c.entry_in-arc.result.head < most_nodes) = (
      omega (arith, tail_node c.requires.town _ _ below c.entry_in-arc.ensures.tail, c.requires.town.small.nodes_most),
      omega (arith, head_node c.requires.town _ _ below c.entry_in-arc.ensures.head, c.requires.town.small.nodes_most),
    ) in
    omega (arith, ends)

pub overflow_sub-sum : goal.overflow_sub-sum
overflow_sub-sum c =
    let below : arc_per * c.args.j
    + (c.args.m - 1 - c.loop-k.k)
    < c.args.l.arcs =
    omega arith in
    count_held c.requires.town _ _ _
    (filling_at c.loop-k.invariant.1 _ (omega arith)) below c.entry_in-arc.ensures

pub loop-k-preserved : goal.loop-k-preserved
loop-k-preserved c =
    let below : arc_per * c.args.j
    + (c.args.m - 1 - c.loop-k.k)
    < c.args.l.arcs =
    omega arith in (
      search rules,
      filling_at
          (filling_more c.requires.town _ _ _
          (filling_at c.loop-k.invariant.1 _ (omega arith)) below c.entry_in-arc.ensures)
          _
          (search rules),
    )

pub returns : goal.returns
returns c = filling_at c.loop-k.invariant.1 _ (search rules)
