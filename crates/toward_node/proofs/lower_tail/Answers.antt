-- `lower_tail` meets its contract: the arc is idle, or nothing fell, or the tail is dirty.
use mathlib.Core.Path.{refl, sym, ◌∙◌}
use Prim.Native.Nat.{◌<◌}
use native.Mathlib.Omega.{arith}
use borrow.Author.{Tests.leb-true, Tests.eqb-true, Tests.eqb-false}
use Rattle.search_chains.specs.Town.{tail_node, head_node}
use Rattle.toward_list.specs.{Heights.held_capped, Heights.heights_known, Seen.seen_size, Seen.seen_known}
use Rattle.toward_node.specs.Turn.{stepped_skip, tail_quiet, tail_lower, tail_numbers}
use Rattle.toward_node.specs.Turn.{least_near, near_first}
use Rattle.toward_node.proofs.lower_tail.Goals as goal

pub bounds-room-u : goal.bounds-room-u
bounds-room-u c =
    omega (
      arith,
      tail_node c.args.roads.now.ready.primed.town _ _ c.requires.0 c.tail-u.ensures.0,
      c.args.roads.now.ready.primed.town.small.nodes_most,
    )

pub returns-then-is_idle : goal.returns-then-is_idle
returns-then-is_idle c =
    stepped_skip c.args.roads.now.ready.primed c.requires.0 c.requires.1
    c.requires.2 c.tail-u.ensures.0
    (c.args.roads.now.leasts.arc _ c.requires.0)
    (leb-true _ _ (sym c.is_idle.ensures ∙ c.if-is_idle.true))

pub lower_row-fell-requires-clause-primed : goal.lower_row-fell-requires-clause-primed
lower_row-fell-requires-clause-primed c = c.args.roads.now.ready.primed

pub lower_row-fell-requires-clause-arc_lt_arcs : goal.lower_row-fell-requires-clause-arc_lt_arcs
lower_row-fell-requires-clause-arc_lt_arcs c =
    let node = tail_node c.args.roads.now.ready.primed.town _ _ c.requires.0 c.tail-u.ensures.0 in
    (c.requires.0, node, seen_size _ c.requires.1)

pub lower_row-fell-requires-clause-capped : goal.lower_row-fell-requires-clause-capped
lower_row-fell-requires-clause-capped c =
    let node = tail_node c.args.roads.now.ready.primed.town _ _ c.requires.0 c.tail-u.ensures.0 in
    let met = head_node c.args.roads.now.ready.primed.town _ _ c.requires.0 refl in (
      held_capped c.args.roads.now.ready.primed.town.small c.requires.1 c.requires.2 met,
      seen_known _ _ _ _ (λ t. eqb-false _ _ t)
          (heights_known c.args.roads.now.ready.primed.town.small c.requires.1 node (λ t. eqb-false _ _ t)),
    )

pub returns-then-fell-eq0 : goal.returns-then-fell-eq0
returns-then-fell-eq0 c =
    tail_quiet c.args.roads.now.ready.primed c.requires.0 c.requires.1
    c.requires.2 c.tail-u.ensures.0
    c.lower_row-fell.ensures (λ t. eqb-true _ _ t) (λ t. eqb-false _ _ t)
    c.if-fell-eq0.true

pub nearness_after-requires-clause-small : goal.nearness_after-requires-clause-small
nearness_after-requires-clause-small c = c.args.roads.now.ready.primed.town.small

pub nearness_after-requires-clause-u_lt_nodes : goal.nearness_after-requires-clause-u_lt_nodes
nearness_after-requires-clause-u_lt_nodes c = let w = c.args.roads.now.leasts.arc _ c.requires.0 in (
  tail_node c.args.roads.now.ready.primed.town _ _ c.requires.0 c.tail-u.ensures.0,
  c.lower_row-fell.ensures.filled.long ∙ seen_size _ c.requires.1,
  least_near c.args.roads.now.ready.primed c.requires.0 c.requires.1 c.requires.2
      c.tail-u.ensures.0 w,
  near_first c.args.roads.now.ready.primed c.requires.0 c.requires.1 c.requires.2
      c.tail-u.ensures.0 c.lower_row-fell.ensures w,
  tail_numbers c.args.roads.now.ready.primed c.requires.0 c.requires.1
      c.requires.2 c.tail-u.ensures.0 c.lower_row-fell.ensures,
)

pub bounds-near-u : goal.bounds-near-u
bounds-near-u c =
    omega (
      arith,
      tail_node c.args.roads.now.ready.primed.town _ _ c.requires.0 c.tail-u.ensures.0,
      c.args.roads.now.ready.primed.town.small.nodes_most,
    )

pub highest-requires-clause-small : goal.highest-requires-clause-small
highest-requires-clause-small c = c.args.roads.now.ready.primed.town.small

pub highest-requires-clause-u_lt_nodes : goal.highest-requires-clause-u_lt_nodes
highest-requires-clause-u_lt_nodes c = (
  tail_node c.args.roads.now.ready.primed.town _ _ c.requires.0 c.tail-u.ensures.0,
  c.lower_row-fell.ensures.filled.long ∙ seen_size _ c.requires.1,
  tail_numbers c.args.roads.now.ready.primed c.requires.0 c.requires.1
      c.requires.2 c.tail-u.ensures.0 c.lower_row-fell.ensures,
)

pub bounds-room-u-2 : goal.bounds-room-u-2
bounds-room-u-2 c =
    omega (
      arith,
      tail_node c.args.roads.now.ready.primed.town _ _ c.requires.0 c.tail-u.ensures.0,
      c.args.roads.now.ready.primed.town.small.nodes_most,
    )

pub returns : goal.returns
returns c =
    let z : 0 < c.lower_row-fell.result =
    omega arith in
    tail_lower c.args.roads.now.ready.primed c.requires.0 c.requires.1
    c.requires.2 c.tail-u.ensures.0
    c.lower_row-fell.ensures
    (λ t. eqb-true _ _ t) (λ t. eqb-false _ _ t) z c.nearness_after.ensures
    c.highest.ensures
