-- `day_sheet::sheet::put_arrivals` meets its contract.
use Prim.Native.Nat.{◌≤◌}
use Rattle.theory_loops.specs.Fill.{Filled}
use Rattle.day_arrivals.specs.Sheeting.{arrival_in}
use Rattle.day_sheet.proofs.sheet.put_arrivals.Given as goal

abbrev pub invariant-loop-t : goal.invariant-loop-t
invariant-loop-t l = (l.t ≤ l.period) × Filled 0 l.t (arrival_in l.work l.p) l.initial.list l.list
