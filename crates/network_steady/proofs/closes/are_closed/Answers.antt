-- `network_steady::closes::are_closed` meets its contract: the days of the arcs of the blocks passed close,
-- and `sum` is the points of those.
use Rattle.std.proofs.Common.{arith}
use borrow.Author.{Rules.rules}
use Rattle.network.specs.{Decode.laid_sizes, Decode.laid_small}
use Rattle.network_steady.specs.Closes.{closing_none, closing_at, closing_end, not_so}
use Rattle.network_steady.proofs.closes.are_closed.Goals as goal

pub blocks-j-end-requires : goal.blocks-j-end-requires
blocks-j-end-requires c = omega (arith, (laid_small c.requires.laid).arcs_most)

pub loop-j-init : goal.loop-j-init
loop-j-init c = (
  search rules,
  search rules,
  omega (arith, (laid_small c.requires.laid).arcs_most),
  closing_at _ _ _ _ _ (closing_none _ _ c.requires.counted (laid_sizes c.requires.laid) (laid_small c.requires.laid)) (search rules),
)

pub close_block-requires-clause-laid : goal.close_block-requires-clause-laid
close_block-requires-clause-laid c = c.requires.laid

pub close_block-requires-clause-m_le_arc_per : goal.close_block-requires-clause-m_le_arc_per
close_block-requires-clause-m_le_arc_per c = search rules

pub close_block-requires-clause-closing : goal.close_block-requires-clause-closing
close_block-requires-clause-closing c = closing_at _ _ _ _ _ c.loop-j.invariant.3 (search rules)

pub returns-in_default : goal.returns-in_default
returns-in_default c = not_so

pub loop-j-preserved : goal.loop-j-preserved
loop-j-preserved c = (
  search rules,
  search rules,
  search rules,
  closing_at _ _ _ _ _ c.in-Some.ensures (search rules),
)

pub returns : goal.returns
returns c = λ _. closing_end _ _ _ _ c.loop-j.invariant.3 (search rules)
