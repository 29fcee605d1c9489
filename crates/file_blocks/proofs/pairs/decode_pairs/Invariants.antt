-- `file_blocks::pairs::decode_pairs` meets its contract: block by block, as `decode16` does for one table.
use Rattle.file_blocks.specs.Table.{entry16}
use Rattle.file_blocks.specs.Place.{blocks}
use Rattle.file_blocks.specs.Pairs.{pair_size}
use Rattle.theory_loops.specs.Fill.{Filled}
use Prim.Native.Nat.{◌≤◌, ◌*◌, min}
use Rattle.file_blocks.proofs.pairs.decode_pairs.Given as goal

abbrev pub invariant-loop-j : goal.invariant-loop-j
invariant-loop-j l =
    (l.j ≤ blocks l.run.kind.per l.run.count)
    × Filled 0 (min l.run.count (l.run.kind.per * l.j))
    (entry16 l.file l.run.from l.run.kind.per pair_size 0) l.initial.lows l.lows
    × Filled 0 (min l.run.count (l.run.kind.per * l.j))
    (entry16 l.file l.run.from l.run.kind.per pair_size 2) l.initial.highs l.highs
