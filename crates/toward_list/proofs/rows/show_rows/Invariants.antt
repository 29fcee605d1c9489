-- `show_rows` meets its contract: the rows passed are as they read.
use Prim.Native.Nat.{◌≤◌}
use Rattle.toward_list.specs.Seen.{Shown}
use Rattle.toward_list.proofs.rows.show_rows.Given as goal

abbrev pub invariant-loop-u : goal.invariant-loop-u
invariant-loop-u l = (l.from ≤ l.u) × (l.u ≤ l.to) × Shown l.l.period l.from l.u l.room l.initial.work l.work
