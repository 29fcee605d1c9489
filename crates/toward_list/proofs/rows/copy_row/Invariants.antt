-- `toward_list::rows::copy_row` meets its contract: the entries passed are the row's.
use Prim.Native.Nat.{◌≤◌}
use Rattle.theory_loops.specs.Fill.{Filled}
use Rattle.toward_list.specs.Places.{copied}
use Rattle.toward_list.proofs.rows.copy_row.Given as goal

abbrev pub invariant-loop-x : goal.invariant-loop-x
invariant-loop-x l = (l.x ≤ l.x-end) × Filled 0 l.x (copied l.work l.p) l.initial.hs l.hs
