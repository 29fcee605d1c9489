-- `trip::flagged::fill_mask` meets its contract.
use Rattle.theory_loops.specs.Fill.{fills}
use Rattle.trip.specs.Flagged.{mask_entry}
use borrow.Author.Rules.{rules}
use Rattle.trip.proofs.flagged.fill_mask.Goals as goal

pub loop-a-init : goal.loop-a-init
loop-a-init c = (search rules, search rules, search rules, search rules, search fills)

pub loop-a-preserved : goal.loop-a-preserved
loop-a-preserved c = (search rules, search rules, search rules, search rules, search (fills, mask_entry))

pub returns : goal.returns
returns c = search fills
