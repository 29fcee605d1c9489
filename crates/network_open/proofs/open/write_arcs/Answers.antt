-- `network_open::open::write_arcs` meets its contract.
use Rattle.network.specs.Decode.{arcs_stored}
use Rattle.network_open.specs.Open.{table_writes}
use Rattle.network_open.proofs.open.write_arcs.Goals as goal

pub decode16-requires-clause-run_in_file : goal.decode16-requires-clause-run_in_file
decode16-requires-clause-run_in_file c = rw c.arcs_run-run.ensures (search arcs_stored)

pub decode16-requires-2-clause-run_in_file : goal.decode16-requires-2-clause-run_in_file
decode16-requires-2-clause-run_in_file c = rw c.arcs_run-run.ensures (search arcs_stored)

pub decode16-requires-3-clause-run_in_file : goal.decode16-requires-3-clause-run_in_file
decode16-requires-3-clause-run_in_file c = rw c.arcs_run-run.ensures (search arcs_stored)

pub returns : goal.returns
returns c =
    let f = rw c.arcs_run-run.ensures at c.decode16.ensures in
    let g = rw c.arcs_run-run.ensures at c.decode16-2.ensures in
    let h = rw c.arcs_run-run.ensures at c.decode16-3.ensures in
    (search table_writes, search table_writes, search table_writes)
