use native.Mathlib.Omega.{arith}
use Rattle.plan_rows.specs.Rows.{rows_none, rows_more, rows_end, rows_room, rows_kept}
use borrow.Author.Rules.{rules}
use Rattle.plan_rows.proofs.rows.put_rows.Goals as goal

pub loop-u-init : goal.loop-u-init
loop-u-init c = (search rules, rows_none)

pub put_row-at-requires-clause-small : goal.put_row-at-requires-clause-small
put_row-at-requires-clause-small c = (c.requires.small.0, rows_kept c.requires.small.1 c.loop-u.invariant.1)

pub put_row-at-requires-clause-u_lt_nodes : goal.put_row-at-requires-clause-u_lt_nodes
put_row-at-requires-clause-u_lt_nodes c = (c.loop-u-test.true, c.requires.work_len.0, c.requires.work_len.1)

pub put_row-at-requires-clause-c_lt_profiles : goal.put_row-at-requires-clause-c_lt_profiles
put_row-at-requires-clause-c_lt_profiles c = (
  omega (arith, c.requires.nodes_bound.0),
  rows_room
      c.args.l.nodes c.loop-u.invariant.1 c.loop-u-test.true c.requires.nodes_bound.1,
)

pub loop-u-preserved : goal.loop-u-preserved
loop-u-preserved c = (
  omega arith,
  rows_more c.loop-u.invariant.1 c.put_row-at.ensures,
)

pub shape_of-out : goal.shape_of-out
shape_of-out c = c.loop-u.invariant.1.long

pub returns : goal.returns
returns c =
    rows_end c.loop-u.invariant.1 c.loop-u.invariant.0 c.loop-u-test.false
