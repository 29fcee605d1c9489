-- `day_merge::turn` meets its contract.
use Rattle.day_merge.specs.Merged.{turned_not, turned_done}
use Rattle.day_merge.proofs.turn.Goals as goal

pub returns-then-more-held : goal.returns-then-more-held
returns-then-more-held c = turned_not _ _ _ _ _ c.if-more-held.true

pub returns : goal.returns
returns c = turned_done _ _ _ _ _ _ c.paint_some.ensures
