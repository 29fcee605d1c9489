-- `search_arcs::tables::fill` meets its contract: after k blocks, from the last on, the tables are those of
-- the arcs behind the blocks that are left.
use mathlib.Core.Path.{◌≡◌}
use Prim.Native.Nat.{◌-◌, ◌*◌, ◌≤◌, min}
use Rattle.file_blocks.specs.{Kind.arc_per, Place.blocks}
use Rattle.search_chains.specs.Tables.{Filling}
use Rattle.search_chains.proofs.tables.fill.Given as goal

abbrev pub invariant-loop-k : goal.invariant-loop-k
invariant-loop-k l =
    (l.k ≤ l.runs) × (l.runs ≡ blocks arc_per l.arcs)
    × Filling l.file l.l (min l.arcs (arc_per * (l.runs - l.k))) l.sum l.heads l.starts l.first l.next
