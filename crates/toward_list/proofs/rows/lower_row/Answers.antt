-- `toward_node::rows::lower_row` meets its contract: the row is a part of the list, lent and given back.
use Prim.Native.Nat.{◌+◌, ◌*◌, ◌≤◌}
use native.Mathlib.Omega.{arith}
use lib.ListN.{length}
use Rattle.toward_list.specs.Rows.{row_lent, known_lent}
use borrow.Author.Rules.{rules}
use Rattle.toward_list.proofs.rows.lower_row.Goals as goal

pub lower_arc-requires-clause-primed : goal.lower_arc-requires-clause-primed
lower_arc-requires-clause-primed c = c.requires.primed

pub lower_arc-requires-clause-arc_lt_arcs : goal.lower_arc-requires-clause-arc_lt_arcs
lower_arc-requires-clause-arc_lt_arcs c = (
  c.requires.arc_lt_arcs.0,
  search rules,
  c.requires.capped.0,
  known_lent c.row_place-p.ensures.0 c.requires.capped.1,
)

pub returns : goal.returns
returns c =
    let m : c.args.u * c.args.l.period + c.args.l.period ≤ length c.args.work.now =
    omega (
      arith,
      c.row_place-p.ensures.0,
      c.row_place-p.ensures.1,
      c.requires.arc_lt_arcs.2,
    ) in
    row_lent _ _ _ _ _ _ _ _ c.row_place-p.ensures.0 m
    c.lower_arc.ensures
