-- `network_tables::steady::are_closed` meets its contract.
use native.Mathlib.Omega.{arith}
use borrow.Author.{Rules.rules}
use Rattle.network_tables.specs.Steady.{closing_some, closing_room, closing_more}
use Rattle.network_tables.specs.{Steady.closings}
use Rattle.network_tables.proofs.steady.are_closed.Goals as goal

pub loop-a-init : goal.loop-a-init
loop-a-init c = (search rules, search closings)

pub is_closed_at-requires-clause-count_in_bounds : goal.is_closed_at-requires-clause-count_in_bounds
is_closed_at-requires-clause-count_in_bounds c = let room = closing_room _ _ _ _ c.loop-a.invariant.1 c.loop-a-test.true c.entry-count.ensures.0 in (omega (arith, room), omega (arith, room))

pub is_closed_at-requires-clause-count_nonzero : goal.is_closed_at-requires-clause-count_nonzero
is_closed_at-requires-clause-count_nonzero c = let room = closing_room _ _ _ _ c.loop-a.invariant.1 c.loop-a-test.true c.entry-count.ensures.0 in (omega (arith, closing_some _ _ _ _ c.loop-a.invariant.1 c.loop-a-test.true c.entry-count.ensures.0), search rules)

pub returns-then-not-is_closed_at : goal.returns-then-not-is_closed_at
returns-then-not-is_closed_at c = search closings

pub overflow_add-from : goal.overflow_add-from
overflow_add-from c = omega (
  arith,
  closing_room _ _ _ _ c.loop-a.invariant.1
      c.loop-a-test.true c.entry-count.ensures.0,
)

pub loop-a-preserved : goal.loop-a-preserved
loop-a-preserved c = (
  search rules,
  closing_more _ _ _ _ c.loop-a.invariant.1
      c.loop-a-test.true c.entry-count.ensures.0
      (c.is_closed_at.ensures (c.if-not-is_closed_at.false)),
)

pub returns : goal.returns
returns c = λ _. search closings
