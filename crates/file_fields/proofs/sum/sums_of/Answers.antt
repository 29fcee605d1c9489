-- `file_fields::sum::sums_of` meets its contract.
use Rattle.file_fields.specs.Sum.{columns_none, columns_more, column_more, column_again}
use Rattle.file_fields.specs.Sum.{columns_end}
use borrow.Author.Rules.{rules}
use Rattle.file_fields.proofs.sum.sums_of.Goals as goal

pub loop-i-init : goal.loop-i-init
loop-i-init c = (
  search rules,
  search columns_none,
  search rules,
  search rules,
  search rules,
  search rules,
  search rules,
  search rules,
  search rules,
  search rules,
)

pub loop-i-preserved : goal.loop-i-preserved
loop-i-preserved c = (
  search rules,
  search columns_more,
  column_more _ _ _ c.loop-i.invariant.2 c.word-a0.ensures.1,
  column_more _ _ _ c.loop-i.invariant.3 c.word-a1.ensures.1,
  column_more _ _ _ c.loop-i.invariant.4 c.word-a2.ensures.1,
  column_more _ _ _ c.loop-i.invariant.5 c.word-a3.ensures.1,
  column_again _ _ _ _ c.loop-i.invariant.6 c.loop-i.invariant.2 c.word-a0.ensures.1
      c.loop-i-test.true,
  column_again _ _ _ _ c.loop-i.invariant.7 c.loop-i.invariant.3 c.word-a1.ensures.1
      c.loop-i-test.true,
  column_again _ _ _ _ c.loop-i.invariant.8 c.loop-i.invariant.4 c.word-a2.ensures.1
      c.loop-i-test.true,
  column_again _ _ _ _ c.loop-i.invariant.9 c.loop-i.invariant.5 c.word-a3.ensures.1
      c.loop-i-test.true,
)

pub returns : goal.returns
returns c = search columns_end
