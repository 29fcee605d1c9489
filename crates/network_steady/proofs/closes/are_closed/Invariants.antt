-- `network_steady::closes::are_closed` meets its contract: the days of the arcs of the blocks passed close,
-- and `sum` is the points of those.
use Rattle.std.proofs.Common.{◌≡◌, ◌*◌, ◌≤◌, min}
use Rattle.file_blocks.specs.{Kind.arc_per, Place.blocks}
use Rattle.network.specs.{Limits.most_arcs, Decode.decode}
use Rattle.network_steady.specs.Closes.{Closing}
use Rattle.network_steady.proofs.closes.are_closed.Given as goal

abbrev pub invariant-loop-j : goal.invariant-loop-j
invariant-loop-j l =
    (l.j ≤ l.j-end) × (l.j-end ≡ blocks arc_per l.arcs) × (l.arcs ≤ most_arcs)
    × Closing (decode l.file) l.l (min l.arcs (arc_per * l.j)) l.sum
