-- `search_arcs::times::first_points` meets its contract: the sum is that of the counts passed, and fits 16
-- bits, since all points do.
use Rattle.theory_loops.specs.{Total.totals, Fill.fills}
use Rattle.network.specs.{Network.start}
use Rattle.search_arcs.specs.Times.{start_small, sum_fits}
use borrow.Author.Rules.{rules}
use Rattle.search_arcs.proofs.times.first_points.Goals as goal

pub loop-a-init : goal.loop-a-init
loop-a-init c = (search rules, search rules, search totals, search fills)

pub overflow_cast-starts : goal.overflow_cast-starts
overflow_cast-starts c = search (start_small, rules)

pub overflow_add-sum : goal.overflow_add-sum
overflow_add-sum c = search (sum_fits, rules)

pub loop-a-preserved : goal.loop-a-preserved
unfolding start
loop-a-preserved c = (search rules, search rules, search totals, search fills)

pub returns : goal.returns
returns c = search (fills, rules)
