-- `file_blocks::pairs::decode_part_pairs` meets its contract.
use Prim.Native.Nat.{◌≤◌, ◌+◌}
use Rattle.file_blocks.specs.{Table.part16, Pairs.pair_size}
use Rattle.theory_loops.specs.Fill.{Filled}
use Rattle.file_blocks.proofs.pairs.decode_part_pairs.Given as goal

abbrev pub invariant-loop-e : goal.invariant-loop-e
invariant-loop-e l =
    (l.e ≤ l.m)
    × Filled l.first (l.first + l.e) (part16 l.file l.base pair_size 0 l.first) l.initial.lows l.lows
    × Filled l.first (l.first + l.e) (part16 l.file l.base pair_size 2 l.first) l.initial.highs l.highs
