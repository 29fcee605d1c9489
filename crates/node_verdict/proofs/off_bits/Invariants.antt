-- `node_verdict::off_bits` meets its contract.
use mathlib.Core.Path.{◌≡◌}
use Prim.Native.Nat.{◌≤◌}
use Rattle.node_verdict.specs.Marks.{offs}
use Rattle.node_verdict.proofs.off_bits.Given as goal

abbrev pub invariant-loop-x : goal.invariant-loop-x
invariant-loop-x l = (l.x ≤ l.period) × (l.off ≡ offs l.marks l.x)
