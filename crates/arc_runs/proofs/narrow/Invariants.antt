-- `arc_runs::narrow` meets its contract.
use Prim.Native.Nat.{◌≤◌}
use Rattle.theory_loops.specs.Fill.{Filled}
use Rattle.arc_runs.specs.Travels.{entries}
use Rattle.arc_runs.proofs.narrow.Given as goal

abbrev pub invariant-loop-i : goal.invariant-loop-i
invariant-loop-i l = (l.i ≤ l.n) × Filled 0 l.i (entries l.values) l.initial.travels l.travels
