-- `file_blocks::pairs::decode_part_pairs` meets its contract.
use Rattle.file_blocks.specs.{Pairs.pairs}
use borrow.Author.Rules.{rules}
use Rattle.file_blocks.proofs.pairs.decode_part_pairs.Goals as goal

pub loop-e-init : goal.loop-e-init
loop-e-init c = (search rules, search pairs, search pairs)

pub loop-e-preserved : goal.loop-e-preserved
loop-e-preserved c = (search rules, search pairs, search pairs)

pub returns : goal.returns
returns c = (search pairs, search pairs)
