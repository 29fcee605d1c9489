-- `search_arcs::times::segment` meets its contract: the first point that is left is at or before x, the one
-- behind the last is after it, and they come together by halves.
use Rattle.theory_travel.specs.{Table.entry_at}
use Rattle.search_arcs.specs.Halves.{halving}
use Rattle.search_arcs.proofs.times.segment.Goals as goal

pub loop-left-init : goal.loop-left-init
loop-left-init c = search halving

pub loop-left-preserved : goal.loop-left-preserved
unfolding entry_at
loop-left-preserved c = search halving

pub returns : goal.returns
returns c = search halving
