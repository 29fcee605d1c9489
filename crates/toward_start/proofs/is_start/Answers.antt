-- `toward_start::is_start` meets its contract.
use mathlib.Core.Path.{refl, ◌∙◌}
use Prim.Native.Nat.{◌+◌, ◌≤◌}
use native.Mathlib.Omega.{arith}
use lib.ListN.{length}
use Rattle.search_chains.specs.Town.{tail_node, head_node}
use Rattle.toward_start.specs.Start.{no_start, tail_row, head_capped, raised_known, start_is}
use Rattle.toward_start.proofs.is_start.Goals as goal

pub row_place-p-requires-clause-small : goal.row_place-p-requires-clause-small
row_place-p-requires-clause-small c = c.requires.primed.town.small

pub row_place-p-requires-clause-u_lt_nodes : goal.row_place-p-requires-clause-u_lt_nodes
row_place-p-requires-clause-u_lt_nodes c = head_node c.requires.primed.town _ _ c.requires.arc_lt_arcs.0 c.head-v.ensures.0

pub returns-then-work-p : goal.returns-then-work-p
returns-then-work-p c = (
  no_start c.requires.primed c.requires.worked c.requires.arc_lt_arcs.0
      c.tail-u.ensures.0
      c.head-v.ensures.0
      _ _ c.row_place-p.ensures.0 refl c.if-work-p.true,
  refl,
)

pub raise_row-requires-clause-small : goal.raise_row-requires-clause-small
raise_row-requires-clause-small c = c.requires.primed.town.small

pub raise_row-requires-clause-u_lt_nodes : goal.raise_row-requires-clause-u_lt_nodes
raise_row-requires-clause-u_lt_nodes c = (tail_node c.requires.primed.town _ _ c.requires.arc_lt_arcs.0 c.tail-u.ensures.0, c.requires.arc_lt_arcs.2, c.requires.arc_lt_arcs.3)

pub raise_row-requires-clause-has_numbers : goal.raise_row-requires-clause-has_numbers
raise_row-requires-clause-has_numbers c = tail_row c.requires.primed c.requires.worked c.requires.arc_lt_arcs.0 c.tail-u.ensures.0 c.head-v.ensures.0
    _ _ c.row_place-p.ensures.0 refl c.if-work-p.false

pub lower_arc-requires-clause-primed : goal.lower_arc-requires-clause-primed
lower_arc-requires-clause-primed c = let fits : c.row_place-p.result + c.args.l.period ≤ length c.args.work.now =
    omega (arith, c.row_place-p.ensures.1, c.requires.arc_lt_arcs.2) in c.requires.primed

pub lower_arc-requires-clause-arc_lt_arcs : goal.lower_arc-requires-clause-arc_lt_arcs
lower_arc-requires-clause-arc_lt_arcs c = let fits : c.row_place-p.result + c.args.l.period ≤ length c.args.work.now =
    omega (arith, c.row_place-p.ensures.1, c.requires.arc_lt_arcs.2) in (
      c.requires.arc_lt_arcs.0,
      omega (arith, c.raise_row.ensures.long, c.requires.primed.town.small.period_most),
      head_capped c.requires.primed c.requires.worked c.requires.arc_lt_arcs.0 c.tail-u.ensures.0
          c.head-v.ensures.0 _ _ c.row_place-p.ensures.0 refl c.if-work-p.false refl fits,
      raised_known c.requires.primed c.requires.worked c.requires.arc_lt_arcs.0 c.tail-u.ensures.0
          c.head-v.ensures.0 _ _ c.row_place-p.ensures.0 refl c.if-work-p.false c.raise_row.ensures,
    )

pub returns : goal.returns
returns c =
    let fits : c.row_place-p.result + c.args.l.period ≤ length c.args.work.now =
    omega (arith, c.row_place-p.ensures.1, c.requires.arc_lt_arcs.2) in (
      start_is c.requires.primed c.requires.worked c.requires.arc_lt_arcs.0 c.tail-u.ensures.0
          c.head-v.ensures.0 c.row_place-p.ensures.0 refl fits c.raise_row.ensures c.lower_arc.ensures refl,
      c.lower_arc.ensures.filled.long ∙ c.raise_row.ensures.long,
    )
