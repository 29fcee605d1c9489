-- `file_blocks::place::Run::decode16` meets its contract.
use Rattle.file_blocks.specs.Table.{entry16}
use Rattle.file_blocks.specs.Place.{blocks}
use Rattle.theory_loops.specs.Fill.{Filled}
use Prim.Native.Nat.{◌≤◌, ◌*◌, min}
use Rattle.file_blocks.proofs.place.Run.decode16.Given as goal

abbrev pub invariant-loop-j : goal.invariant-loop-j
invariant-loop-j l =
    (l.j ≤ blocks l.self.kind.per l.self.count)
    × Filled 0 (min l.self.count (l.self.kind.per * l.j))
    (entry16 l.file l.self.from l.self.kind.per l.self.kind.size l.at) l.initial.out l.out
