-- `leasts::least_of_arc` meets its contract: its points' least travel is the arc's.
use Rattle.toward_row.specs.Arcs.{arc_of_lem}
use Rattle.toward_list.specs.Leasts.{least_arc}
use Rattle.toward_list.proofs.leasts.least_of_arc.Goals as goal

pub least_of_points-requires-clause-laid : goal.least_of_points-requires-clause-laid
least_of_points-requires-clause-laid c = c.requires.primed.town.laid

pub least_of_points-requires-clause-count_bound : goal.least_of_points-requires-clause-count_bound
least_of_points-requires-clause-count_bound c =
    let points = arc_of_lem c.requires.primed c.requires.arc_lt_arcs _ _ c.from-from.ensures
    c.count-count.ensures.0 in points.within

pub returns : goal.returns
returns c =
    least_arc c.requires.primed c.requires.arc_lt_arcs _ _ _ c.from-from.ensures
    c.count-count.ensures.0 c.least_of_points.ensures.0
