-- `toward_row::lower_arc` meets its contract: the arc's points are read where the table says.
use Rattle.toward_row.specs.Arcs.{arc_of_lem, arc_lowered}
use Rattle.toward_row.proofs.lower_arc.Goals as goal

pub lower_points-requires-clause-laid : goal.lower_points-requires-clause-laid
lower_points-requires-clause-laid c = c.requires.primed.town.laid

pub lower_points-requires-clause-arc : goal.lower_points-requires-clause-arc
lower_points-requires-clause-arc c = arc_of_lem c.requires.primed c.requires.arc_lt_arcs.0 _ _
    c.from-from.ensures
    c.count-count.ensures.0

pub lower_points-requires-clause-period_in_bounds : goal.lower_points-requires-clause-period_in_bounds
lower_points-requires-clause-period_in_bounds c = (
  c.requires.arc_lt_arcs.1,
  c.requires.arc_lt_arcs.2,
  c.requires.arc_lt_arcs.3,
)

pub returns : goal.returns
returns c =
    arc_lowered c.requires.primed c.requires.arc_lt_arcs.0 _ _ c.from-from.ensures
    c.count-count.ensures.0 _ _ _ _
    c.lower_points.ensures
