-- `plan::read::point_count` meets its contract.
use Rattle.plan.specs.PlanDecode.{reads}
use Rattle.plan.proofs.read.point_count.Goals as goal

pub field16-requires-clause-entry_in_file : goal.field16-requires-clause-entry_in_file
field16-requires-clause-entry_in_file c = rw c.counts_run.ensures (search reads)

pub returns : goal.returns
returns c = let e = rw c.counts_run.ensures at c.field16.ensures in (search reads, e.1)
