-- `network_open::open::write_points` meets its contract.
use Rattle.network.specs.Decode.{points_stored}
use Rattle.network_open.specs.Open.{table_writes}
use Rattle.network_open.proofs.open.write_points.Goals as goal

pub decode_pairs-requires-clause-run_in_file : goal.decode_pairs-requires-clause-run_in_file
decode_pairs-requires-clause-run_in_file c = rw c.points_run.ensures (search points_stored)

pub returns : goal.returns
returns c =
    let f = rw c.points_run.ensures at c.decode_pairs.ensures in
    (search table_writes, search table_writes)
