-- `network_encode::encode::put_cells` meets its contract.
use Prim.Native.Nat.{◌+◌, ◌*◌, ◌≤◌}
use Rattle.theory_loops.specs.Fill.{Filled}
use Rattle.network_encode.specs.{Encode.cell_byte}
use Rattle.network_encode.specs.Entries.{part_byte}
use Rattle.network_encode.proofs.encode.put_cells.Given as goal

abbrev pub invariant-loop-e : goal.invariant-loop-e
invariant-loop-e l =
    (l.e ≤ l.m) × Filled l.base (l.base + 2 * l.e) (part_byte 2 (cell_byte l.cells) l.base l.first) l.initial.out l.out
