-- `search_arcs::tables::fill` meets its contract: after k blocks, from the last on, the tables are those of
-- the arcs behind the blocks that are left.
use native.Mathlib.Omega.{arith}
use Rattle.search_chains.specs.Tables.{filling_at, filling_none}
use borrow.Author.Rules.{rules}
use Rattle.search_chains.proofs.tables.fill.Goals as goal

pub loop-k-init : goal.loop-k-init
loop-k-init c = (
  search rules,
  search rules,
  filling_at (filling_none c.requires.town c.requires.unchained.0 c.requires.unchained.1 c.requires.unchained.2) _ (omega arith),
)

pub fill_block-sum-requires-clause-town : goal.fill_block-sum-requires-clause-town
fill_block-sum-requires-clause-town c = c.requires.town

pub fill_block-sum-requires-clause-m_le_arc_per : goal.fill_block-sum-requires-clause-m_le_arc_per
fill_block-sum-requires-clause-m_le_arc_per c = (omega arith, omega arith)

pub fill_block-sum-requires-clause-filling : goal.fill_block-sum-requires-clause-filling
fill_block-sum-requires-clause-filling c = filling_at c.loop-k.invariant.2 _ (omega arith)

pub loop-k-preserved : goal.loop-k-preserved
loop-k-preserved c =
    (search rules, search rules, filling_at c.fill_block-sum.ensures _ (omega arith))

pub returns : goal.returns
returns c =
    let f = filling_at c.loop-k.invariant.2 0 (omega arith) in (f.chained, f.tabled)
