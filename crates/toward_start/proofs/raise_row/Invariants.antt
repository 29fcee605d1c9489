-- `toward_start::raise_row` meets its contract: the entries passed are one more than the row's.
use Prim.Native.Nat.{◌≤◌}
use Rattle.theory_loops.specs.Fill.{Filled}
use Rattle.toward_start.specs.Start.{raised_from}
use Rattle.toward_start.proofs.raise_row.Given as goal

abbrev pub invariant-loop-x : goal.invariant-loop-x
invariant-loop-x l =
    (l.x ≤ l.x-end) × Filled 0 l.x (raised_from l.work l.p) l.initial.row l.row
