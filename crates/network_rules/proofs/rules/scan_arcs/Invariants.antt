-- `network_rules::rules::scan_arcs` meets its contract: no arc of the blocks passed is bad, and `sum` is the
-- points of those.
use mathlib.Core.Path.{◌≡◌}
use Prim.Native.Nat.{◌*◌, ◌≤◌, min}
use Rattle.file_blocks.specs.{Kind.arc_per, Place.blocks}
use Rattle.network.specs.{Limits.most_arcs, Decode.decode}
use Rattle.network_rules.specs.ScanArcs.{ArcsPassed}
use Rattle.network_rules.proofs.rules.scan_arcs.Given as goal

abbrev pub invariant-loop-j : goal.invariant-loop-j
invariant-loop-j l =
    (l.j ≤ l.j-end) × (l.j-end ≡ blocks arc_per l.arcs) × (l.arcs ≤ most_arcs)
    × ArcsPassed (decode l.file) (min l.arcs (arc_per * l.j)) l.sum
