-- `search_arcs::tables::fill_block` meets its contract: after k arcs of the block, from its last on, the
-- tables are those of the arcs behind the ones that are left.
use Prim.Native.Nat.{◌+◌, ◌-◌, ◌*◌, ◌≤◌}
use Rattle.file_blocks.specs.Kind.{arc_per}
use Rattle.search_chains.specs.Tables.{Filling}
use Rattle.search_chains.proofs.tables.fill_block.Given as goal

abbrev pub invariant-loop-k : goal.invariant-loop-k
invariant-loop-k l =
    (l.k ≤ l.m) × Filling l.file l.l (arc_per * l.j + (l.m - l.k)) l.sum l.heads l.starts l.first l.next
