-- `day_runs::finish` meets its contract.
use Rattle.day_slopes.specs.Held.{finish_ending, finish_added}
use borrow.Author.Rules.{rules}
use Rattle.day_runs.proofs.finish.Goals as goal

pub close-requires : goal.close-requires
close-requires c = finish_ending c.requires.room c.requires.leading c.piece-m.ensures

pub returns : goal.returns
returns c = (
  finish_added c.requires.room c.requires.leading c.piece-m.ensures c.close.ensures,
  search rules,
)
