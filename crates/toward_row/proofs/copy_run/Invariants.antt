-- `toward_row::copy_run` meets its contract: the entries passed are copied.
use mathlib.Core.Bool.{true}
use Prim.Native.Nat.{◌≤◌}
use Rattle.theory_loops.specs.Fill.{Filled}
use Rattle.toward_row.specs.Lower.{shifted}
use Rattle.toward_row.proofs.copy_run.Given as goal

abbrev pub invariant-loop-x : goal.invariant-loop-x
invariant-loop-x l =
    (l.a ≤ l.x) × (l.x ≤ l.b) × Filled l.a l.x (shifted true l.hs l.from l.a l.more l.initial.row)
    l.initial.row l.row
