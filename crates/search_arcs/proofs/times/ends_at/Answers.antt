-- `search_arcs::times::ends_at` meets its contract: an arc's travel at the tick, reduced, is that of its
-- points, and at most a period.
use Rattle.search_arcs.specs.Times.{times}
use borrow.Author.Rules.{rules}
use Rattle.search_arcs.proofs.times.ends_at.Goals as goal

pub travel_at-requires-clause-count_bound : goal.travel_at-requires-clause-count_bound
travel_at-requires-clause-count_bound c = (search times, search times)

pub travel_at-requires-clause-day : goal.travel_at-requires-clause-day
travel_at-requires-clause-day c = search times

pub overflow_cast-result : goal.overflow_cast-result
overflow_cast-result c = search times

pub overflow_add-result : goal.overflow_add-result
overflow_add-result c = search (times, rules)

pub returns : goal.returns
returns c = (search times, search times)
