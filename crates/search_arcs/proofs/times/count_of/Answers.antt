-- `search_arcs::times::count_of` meets its contract: the arc's points end where the next arc's start, or
-- all do.
use Rattle.search_arcs.specs.Times.{count_above, count_between, last_above, last_between}
use Rattle.search_arcs.proofs.times.count_of.Goals as goal

pub overflow_sub-result : goal.overflow_sub-result
overflow_sub-result c = search count_above

pub returns-then-after-l : goal.returns-then-after-l
returns-then-after-l c = search count_between

pub overflow_sub-result-2 : goal.overflow_sub-result-2
overflow_sub-result-2 c = search last_above

pub returns : goal.returns
returns c = search last_between
