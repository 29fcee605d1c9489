-- `file_blocks::place::decode_part16` meets its contract.
use Prim.Native.Nat.{◌≤◌, ◌+◌}
use Rattle.file_blocks.specs.Table.{part16}
use Rattle.theory_loops.specs.Fill.{Filled}
use Rattle.file_blocks.proofs.place.decode_part16.Given as goal

abbrev pub invariant-loop-e : goal.invariant-loop-e
invariant-loop-e l =
    (l.e ≤ l.m)
    × Filled l.first (l.first + l.e) (part16 l.file l.base l.size l.at l.first) l.initial.out l.out
