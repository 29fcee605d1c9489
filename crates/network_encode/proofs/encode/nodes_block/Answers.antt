-- `network_encode::encode::nodes_block` meets its contract.
use Rattle.network_encode.specs.Written.{node_blocks_lem}
use Rattle.network_encode.proofs.encode.nodes_block.Goals as goal

pub cells_block-requires-clause-in_run : goal.cells_block-requires-clause-in_run
cells_block-requires-clause-in_run c = search node_blocks_lem

pub returns-then-l-eq0 : goal.returns-then-l-eq0
returns-then-l-eq0 c = search node_blocks_lem

pub triples_block-requires-clause-in_run : goal.triples_block-requires-clause-in_run
triples_block-requires-clause-in_run c = search node_blocks_lem

pub returns : goal.returns
returns c = search node_blocks_lem
