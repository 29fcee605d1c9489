-- `plan::borders::count_borders` meets its contract: the marks of the nodes are counted.
use native.Mathlib.Omega.{arith}
use mathlib.Core.Path.{sym}
use lib.Seq.{length-take-le}
use Rattle.network.specs.Decode.{laid_sizes, laid_small}
use Rattle.plan.specs.Marks.{mark_none, borders_counted}
use Rattle.plan.proofs.borders.count_borders.Goals as goal

pub mark_heads-requires-clause-marked : goal.mark_heads-requires-clause-marked
mark_heads-requires-clause-marked c = mark_none _

pub slice_bounds-marks-end : goal.slice_bounds-marks-end
slice_bounds-marks-end c =
    omega (arith, c.mark_heads.ensures.long, (laid_small c.requires.laid).nodes_most)

pub slice_bounds-count_marks-end : goal.slice_bounds-count_marks-end
slice_bounds-count_marks-end c =
    sym
    (length-take-le _ _
    (omega (arith, c.mark_heads.ensures.long, (laid_small c.requires.laid).nodes_most)))

pub returns : goal.returns
returns c =
    borders_counted _ _ c.mark_heads.ensures c.count_marks.ensures (laid_sizes c.requires.laid).nodes
    (laid_small c.requires.laid).nodes_most
