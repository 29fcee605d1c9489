-- `plan_encode::entries::put_flags` meets its contract: the words passed are put.
use mathlib.Core.Path.{◌≡◌}
use Prim.Native.Nat.{◌≤◌}
use lib.ListN.{length}
use Rattle.file_blocks.specs.Kind.{flag_per, flag_size}
use Rattle.file_frames.specs.Laid.{entries_put}
use Rattle.plan_encode.proofs.entries.put_flags.Given as goal

abbrev pub invariant-loop-a : goal.invariant-loop-a
invariant-loop-a l = (l.a ≤ l.a-end) × (length l.out ≡ length l.initial.out)
    × (l.out ≡ entries_put 1 flag_per flag_size l.words l.a l.initial.out)
