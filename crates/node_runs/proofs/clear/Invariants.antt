-- `node_runs::clear` meets its contract.
use Prim.Native.Nat.{◌≤◌}
use mathlib.Core.Path.{◌≡◌}
use lib.ListN.{length}
use Rattle.node_runs.specs.Ready.{Blank}
use Rattle.node_runs.proofs.clear.Given as goal

abbrev pub invariant-loop-x : goal.invariant-loop-x
invariant-loop-x l = (l.x ≤ l.period) × (length l.marks ≡ length l.initial.marks) × Blank l.x l.marks
