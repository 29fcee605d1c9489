-- `day_merge::paint` meets its contract.
use Prim.Native.Nat.{◌≤◌}
use Rattle.theory_loops.specs.Fill.{Filled}
use Rattle.day_merge.specs.Merged.{painted, always}
use Rattle.day_merge.proofs.paint.Given as goal

abbrev pub invariant-loop-x : goal.invariant-loop-x
invariant-loop-x l =
    (l.a ≤ l.x) × (l.x ≤ l.b) × Filled l.a l.x (painted (always l.more) l.initial.marks) l.initial.marks
    l.marks
