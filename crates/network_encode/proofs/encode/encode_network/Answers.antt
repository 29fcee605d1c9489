-- `network_encode::encode::encode_network` meets its contract.
use Rattle.network_encode.specs.{Written.file_more, Written.file_whole}
use Rattle.theory_loops.specs.Fill.{fill_none}
use borrow.Author.Rules.{rules}
use Rattle.network_encode.proofs.encode.encode_network.Goals as goal

pub loop-b-init : goal.loop-b-init
loop-b-init c = (search rules, fill_none _ _ _)

pub loop-b-preserved : goal.loop-b-preserved
loop-b-preserved c = (search rules, search file_more)

pub returns : goal.returns
returns c = search file_whole
