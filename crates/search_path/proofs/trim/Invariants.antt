-- `search_path::trim` meets its contract: the invariant is the contract itself at the nodes passed.
use mathlib.Core.Path.{◌≡◌}
use Prim.Native.Nat.{◌≤◌}
use lib.ListN.{length}
use Rattle.theory_loops.specs.Fill.{Filled}
use Rattle.search_path.specs.Trim.{shown}
use Rattle.search_path.proofs.trim.Given as goal

abbrev pub invariant-loop-v : goal.invariant-loop-v
invariant-loop-v l =
    (l.v ≤ l.v-end) × (l.v-end ≡ length l.initial.labels) × Filled 0 l.v (shown l.initial.labels l.target) l.initial.labels l.labels
