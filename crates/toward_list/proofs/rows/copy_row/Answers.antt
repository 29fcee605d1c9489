-- `toward_list::rows::copy_row` meets its contract: the entries passed are the row's.
use Rattle.theory_loops.specs.Fill.{fill_end, fills}
use Rattle.toward_list.specs.Places.{copied, copy_entry, copy_row_lem}
use borrow.Author.Rules.{rules}
use Rattle.toward_list.proofs.rows.copy_row.Goals as goal

pub loop-x-init : goal.loop-x-init
loop-x-init c = (search rules, search fills)

pub loop-x-preserved : goal.loop-x-preserved
loop-x-preserved c = (search rules, search (fills, copy_entry))

pub returns : goal.returns
returns c =
    copy_row_lem _ _ _ _ _ _ c.row_place-p.ensures.0
    (fill_end (copied _ _) _ 0 _ _ _ c.loop-x.invariant.1 c.loop-x.invariant.0 c.loop-x-test.false)
