-- `file_frames::frames::frame_run` meets its contract: the blocks passed have their frames.
use mathlib.Core.Path.{◌≡◌}
use Prim.Native.Nat.{◌≤◌}
use Rattle.file_blocks.specs.Place.{blocks}
use Rattle.file_frames.specs.Framed.{Framed}
use Rattle.file_frames.proofs.frames.frame_run.Given as goal

abbrev pub invariant-loop-j : goal.invariant-loop-j
invariant-loop-j l =
    (l.j ≤ l.j-end) × (l.j-end ≡ blocks l.run.kind.per l.run.count)
    × Framed l.run.kind.number l.run.kind.per l.run.count l.run.from l.j l.initial.out l.out
