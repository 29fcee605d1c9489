-- `search_arcs::times::travel_at` meets its contract: the segment and the next point, or the next day's
-- first, are the ends of the line.
use native.Mathlib.Omega.{arith}
use Rattle.theory_travel.specs.Day.{day_sorted}
use Rattle.search_arcs.specs.Stretches.{reach_sorted, reaching}
use borrow.Author.Rules.{rules}
use Rattle.search_arcs.proofs.times.travel_at.Goals as goal

pub stretch_of-s-requires-clause-laid : goal.stretch_of-s-requires-clause-laid
stretch_of-s-requires-clause-laid c = c.requires.town.laid

pub stretch_of-s-requires-clause-count_bound : goal.stretch_of-s-requires-clause-count_bound
stretch_of-s-requires-clause-count_bound c = c.requires.count_bound.0

pub stretch_of-s-requires-clause-sorted : goal.stretch_of-s-requires-clause-sorted
stretch_of-s-requires-clause-sorted c = day_sorted c.requires.day _

pub segment-k-requires-clause-laid : goal.segment-k-requires-clause-laid
segment-k-requires-clause-laid c = (c.requires.town.laid, omega (arith, c.requires.town.small))

pub segment-k-requires-clause-placed : goal.segment-k-requires-clause-placed
segment-k-requires-clause-placed c = search rules

pub segment-k-requires-clause-sorted : goal.segment-k-requires-clause-sorted
segment-k-requires-clause-sorted c = reach_sorted c.stretch_of-s.ensures c.count_before-n.ensures

pub travel-requires-clause-laid : goal.travel-requires-clause-laid
travel-requires-clause-laid c = c.requires.town.laid

pub travel-requires-clause-placed : goal.travel-requires-clause-placed
travel-requires-clause-placed c = search rules

pub line-requires : goal.line-requires
line-requires c = (search reaching, search reaching, search rules, search rules, search rules)

pub line-requires-else-s-k : goal.line-requires-else-s-k
line-requires-else-s-k c = (search reaching, search rules, search rules, search rules, search rules)

pub returns-then-s-k : goal.returns-then-s-k
returns-then-s-k c = search reaching

pub returns-else-s-k : goal.returns-else-s-k
returns-else-s-k c = search reaching
