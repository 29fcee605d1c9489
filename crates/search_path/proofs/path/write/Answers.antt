-- `search_path::path::write` meets its contract: the loop goes back by the notes, and writes each arc before
-- those written.
use Rattle.search_path.specs.Trail.{writes}
use Rattle.search_path.proofs.path.write.Goals as goal

pub loop-n-init : goal.loop-n-init
loop-n-init c = search writes

pub bounds-notes-v : goal.bounds-notes-v
bounds-notes-v c = search writes

pub offset_bounds-roads-n : goal.offset_bounds-roads-n
offset_bounds-roads-n c = search writes

pub bounds-roads-n : goal.bounds-roads-n
bounds-roads-n c = search writes

pub tail-v-requires-clause-a_lt_arcs : goal.tail-v-requires-clause-a_lt_arcs
tail-v-requires-clause-a_lt_arcs c = search writes

pub loop-n-smaller : goal.loop-n-smaller
loop-n-smaller c = search writes

pub loop-n-preserved : goal.loop-n-preserved
loop-n-preserved c = search writes

pub returns : goal.returns
returns c = search writes
