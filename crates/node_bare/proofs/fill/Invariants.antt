-- `node_bare::fill` meets its contract.
use Prim.Native.Nat.{◌≤◌}
use Rattle.theory_loops.specs.Fill.{Filled}
use Rattle.node_bare.proofs.fill.Given as goal

abbrev pub invariant-loop-x : goal.invariant-loop-x
invariant-loop-x l = (l.a ≤ l.x) × (l.x ≤ l.b) × Filled l.a l.x (λ _. l.byte) l.initial.marks l.marks
