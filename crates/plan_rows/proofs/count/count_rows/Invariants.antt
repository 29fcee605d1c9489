use mathlib.Core.Path.{◌≡◌}
use Prim.Native.Nat.{◌≤◌}
use Rattle.theory_loops.specs.Total.{total}
use Rattle.plan_rows.specs.Rows.{row_points}
use Rattle.plan_rows.proofs.count.count_rows.Given as goal

abbrev pub invariant-loop-u : goal.invariant-loop-u
invariant-loop-u l = (l.u ≤ l.l.nodes) × (l.seen ≡ total l.u (row_points l.l.period l.work))
