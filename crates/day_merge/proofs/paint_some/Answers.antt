-- `day_merge::paint_some` meets its contract.
use native.Mathlib.Omega.{arith}
use Rattle.day_merge.specs.Merged.{painted_none}
use Rattle.day_merge.proofs.paint_some.Goals as goal

pub returns-else-more-ne0 : goal.returns-else-more-ne0
returns-else-more-ne0 c = painted_none _ _ _ _ (omega arith)
