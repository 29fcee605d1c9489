-- `network::read::travel` meets its contract.
use Rattle.network.specs.Decode.{reads}
use Rattle.network.proofs.read.travel.Goals as goal

pub field16-requires-clause-entry_in_file : goal.field16-requires-clause-entry_in_file
field16-requires-clause-entry_in_file c = rw c.points_run.ensures (search reads)

pub returns : goal.returns
returns c = let e = rw c.points_run.ensures at c.field16.ensures in (search reads, e.1)
