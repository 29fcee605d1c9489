-- `network::read::cell` meets its contract.
use Rattle.network.specs.Decode.{reads}
use Rattle.network.proofs.read.cell.Goals as goal

pub field16-requires-clause-entry_in_file : goal.field16-requires-clause-entry_in_file
field16-requires-clause-entry_in_file c = rw c.cells_run.ensures (search reads)

pub returns-then-l-eq0 : goal.returns-then-l-eq0
returns-then-l-eq0 c = let e = rw c.cells_run.ensures at c.field16.ensures in (search reads, e.1)

pub field16-requires-2-clause-entry_in_file : goal.field16-requires-2-clause-entry_in_file
field16-requires-2-clause-entry_in_file c = rw c.hours_run.ensures (search reads)

pub returns : goal.returns
returns c = let e = rw c.hours_run.ensures at c.field16-2.ensures in (search reads, e.1)
