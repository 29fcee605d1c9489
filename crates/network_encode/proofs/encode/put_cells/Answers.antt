-- `network_encode::encode::put_cells` meets its contract.
use Rattle.network_encode.specs.{Written.cell_put}
use Rattle.network_encode.specs.Entries.{entry_none, entry_end}
use borrow.Author.Rules.{rules}
use Rattle.network_encode.proofs.encode.put_cells.Goals as goal

pub loop-e-init : goal.loop-e-init
loop-e-init c = (search rules, entry_none _ _ _ _ _)

pub loop-e-preserved : goal.loop-e-preserved
loop-e-preserved c = (
  search rules,
  cell_put _ _ _ _ _ _ _ c.loop-e-test.true _
      c.loop-e.invariant.1
      c.requires.0
      c.put16.ensures,
)

pub returns : goal.returns
returns c = search entry_end
