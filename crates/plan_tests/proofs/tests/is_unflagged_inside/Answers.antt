-- `plan_tests::tests::is_unflagged_inside` meets its contract, test 20: the flag that is read is that of the
-- cell of both ends.
use Rattle.search_chains.specs.Town.{town_reads}
use Rattle.plan_tests.specs.Failing.{failings}
use Rattle.plan_tests.proofs.tests.is_unflagged_inside.Goals as goal

pub cell-cell-requires-clause-v_lt_nodes : goal.cell-cell-requires-clause-v_lt_nodes
cell-cell-requires-clause-v_lt_nodes c = search town_reads

pub cell-requires-clause-v_lt_nodes : goal.cell-requires-clause-v_lt_nodes
cell-requires-clause-v_lt_nodes c = search town_reads

pub returns-then-cell : goal.returns-then-cell
returns-then-cell c = search failings

pub is_set-requires : goal.is_set-requires
is_set-requires c = search (failings, town_reads)

pub returns : goal.returns
returns c = search failings
