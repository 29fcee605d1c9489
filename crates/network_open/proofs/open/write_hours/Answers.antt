-- `network_open::open::write_hours` meets its contract.
use native.Mathlib.Omega.{arith}
use Rattle.network.specs.Decode.{hours_stored, laid_small}
use Rattle.network_open.specs.Open.{table_writes}
use Rattle.network_open.proofs.open.write_hours.Goals as goal

pub overflow_cast-period : goal.overflow_cast-period
overflow_cast-period c =
    omega (arith, laid_small c.requires.laid)

pub returns-then-l-eq0 : goal.returns-then-l-eq0
returns-then-l-eq0 c = (search table_writes, search table_writes)

pub decode16-requires-clause-run_in_file : goal.decode16-requires-clause-run_in_file
decode16-requires-clause-run_in_file c = rw c.hours_run-run.ensures (search hours_stored)

pub decode16-requires-2-clause-run_in_file : goal.decode16-requires-2-clause-run_in_file
decode16-requires-2-clause-run_in_file c = rw c.hours_run-run.ensures (search hours_stored)

pub returns : goal.returns
returns c =
    let f = rw c.hours_run-run.ensures at c.decode16.ensures in
    let g = rw c.hours_run-run.ensures at c.decode16-2.ensures in
    (search table_writes, search table_writes)
