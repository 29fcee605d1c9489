-- `network_validate::validate::first_bad_nodes` meets its contract.
use native.Mathlib.Omega.{arith}
use Rattle.network.specs.Decode.{nodes_stored, laid_small}
use Rattle.network.specs.Node.{node_fits}
use Rattle.network_validate.proofs.validate.first_bad_nodes.Goals as goal

pub first_unformed-requires-clause-run_in_file : goal.first_unformed-requires-clause-run_in_file
first_unformed-requires-clause-run_in_file c = rw c.nodes_run.ensures (nodes_stored c.requires)

pub first_unformed-requires-clause-per_bound : goal.first_unformed-requires-clause-per_bound
first_unformed-requires-clause-per_bound c =
    rw c.nodes_run.ensures (omega (arith, laid_small c.requires, node_fits c.args.l.hours))

pub returns : goal.returns
returns c = rw c.nodes_run.ensures at c.first_unformed.ensures
