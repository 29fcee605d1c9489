use Rattle.toward_points.specs.Row.{differ_told}
use Rattle.toward_points.proofs.turn.Goals as goal

pub returns : goal.returns
returns c = differ_told _ _ _ c.from.ensures
