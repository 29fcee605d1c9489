-- `network_open::open::write_cells` meets its contract.
use Rattle.network.specs.Decode.{nodes_stored}
use Rattle.network_open.specs.Open.{table_writes}
use native.Mathlib.Omega.{arith}
use Rattle.network.specs.Node.{node_fits}
use Rattle.network_open.proofs.open.write_cells.Goals as goal

pub decode16-requires-clause-run_in_file : goal.decode16-requires-clause-run_in_file
decode16-requires-clause-run_in_file c = rw c.nodes_run.ensures (nodes_stored c.requires.laid)

pub decode16-requires-clause-at_bound : goal.decode16-requires-clause-at_bound
decode16-requires-clause-at_bound c =
    rw c.nodes_run.ensures (omega (arith, node_fits c.args.l.hours), c.requires.nodes_in_bounds)

pub returns : goal.returns
returns c = let f = rw c.nodes_run.ensures at c.decode16.ensures in search table_writes
