-- `network::read::closes_at` meets its contract.
use native.Mathlib.Omega.{arith}
use Rattle.network.specs.Decode.{laid_small, reads}
use Rattle.network.proofs.read.closes_at.Goals as goal

pub returns-then-l-eq0 : goal.returns-then-l-eq0
returns-then-l-eq0 c = (search reads, omega (arith, laid_small c.requires.laid))

pub field16-requires-clause-entry_in_file : goal.field16-requires-clause-entry_in_file
field16-requires-clause-entry_in_file c = rw c.hours_run.ensures (search reads)

pub returns : goal.returns
returns c = let e = rw c.hours_run.ensures at c.field16.ensures in (search reads, e.1)
