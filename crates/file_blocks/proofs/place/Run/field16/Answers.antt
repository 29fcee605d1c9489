-- `file_blocks::place::Run::field16` meets its contract.
use mathlib.Core.Path.{◌∙◌}
use borrow.Author.Rules.{rules}
use Rattle.file_blocks.proofs.place.Run.field16.Goals as goal

pub returns : goal.returns
returns c = (c.from.ensures ∙ (rw c.offset.ensures at c.le16.ensures), search rules)
