-- `plan::borders::mark_heads` meets its contract: the invariant is the contract itself at the arcs passed.
use mathlib.Core.Path.{◌≡◌}
use Prim.Native.Nat.{◌≤◌}
use Rattle.network.specs.Decode.{decode}
use Rattle.plan.specs.Marks.{Marked}
use Rattle.plan.proofs.borders.mark_heads.Given as goal

abbrev pub invariant-loop-a : goal.invariant-loop-a
invariant-loop-a l = (l.a ≤ l.a-end) × (l.a-end ≡ l.l.arcs) × Marked (decode l.network) l.a l.marks
