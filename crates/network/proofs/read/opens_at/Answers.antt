-- `network::read::opens_at` meets its contract.
use Rattle.network.specs.Decode.{reads}
use borrow.Author.Rules.{rules}
use Rattle.network.proofs.read.opens_at.Goals as goal

pub returns-then-l-eq0 : goal.returns-then-l-eq0
returns-then-l-eq0 c = (search reads, search rules)

pub field16-requires-clause-entry_in_file : goal.field16-requires-clause-entry_in_file
field16-requires-clause-entry_in_file c = rw c.hours_run.ensures (search reads)

pub returns : goal.returns
returns c = let e = rw c.hours_run.ensures at c.field16.ensures in (search reads, e.1)
