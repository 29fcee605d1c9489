-- `network_encode::encode::write_block` meets its contract.
use Rattle.network_encode.specs.Written.{blockwise}
use Rattle.network_encode.proofs.encode.write_block.Goals as goal

pub returns-then-b-lt1 : goal.returns-then-b-lt1
returns-then-b-lt1 c = search blockwise

pub nodes_block-requires-clause-in_run : goal.nodes_block-requires-clause-in_run
nodes_block-requires-clause-in_run c = search blockwise

pub returns-then-b-l : goal.returns-then-b-l
returns-then-b-l c = search blockwise

pub triples_block-requires-clause-in_run : goal.triples_block-requires-clause-in_run
triples_block-requires-clause-in_run c = search blockwise

pub returns-then-b-l-2 : goal.returns-then-b-l-2
returns-then-b-l-2 c = search blockwise

pub points_block-requires-clause-in_run : goal.points_block-requires-clause-in_run
points_block-requires-clause-in_run c = search blockwise

pub returns : goal.returns
returns c = search blockwise
