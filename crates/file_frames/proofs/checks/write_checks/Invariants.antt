-- `file_frames::checks::write_checks` meets its contract: the blocks passed have their checks.
use mathlib.Core.Path.{◌≡◌}
use Prim.Native.Nat.{◌≤◌}
use lib.ListN.{length}
use Rattle.file_frames.specs.Sealed.{sealed_to}
use Rattle.file_frames.proofs.checks.write_checks.Given as goal

abbrev pub invariant-loop-b : goal.invariant-loop-b
invariant-loop-b l = (l.b ≤ l.blocks) × (length l.out ≡ length l.initial.out) × (l.out ≡ sealed_to l.b l.initial.out)
