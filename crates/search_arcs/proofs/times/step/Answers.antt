-- `search_arcs::times::step` meets its contract: the mask has all of 16 bits where t is at or before x, else
-- none.
use Rattle.search_arcs.specs.Halves.{step_is}
use Rattle.search_arcs.proofs.times.step.Goals as goal

pub returns : goal.returns
returns c = search step_is
