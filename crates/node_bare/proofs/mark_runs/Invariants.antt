-- `node_bare::mark_runs` meets its contract.
use mathlib.Core.Path.{◌≡◌}
use Prim.Native.Nat.{◌≤◌}
use lib.ListN.{length}
use Rattle.node_bare.specs.Home.{Painted}
use Rattle.node_bare.proofs.mark_runs.Given as goal

abbrev pub invariant-loop-k : goal.invariant-loop-k
invariant-loop-k l =
    (l.k ≤ l.n) × (length l.marks ≡ length l.initial.marks) × Painted l.starts l.values l.k l.marks
