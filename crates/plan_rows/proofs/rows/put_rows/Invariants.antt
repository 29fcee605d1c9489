use Prim.Native.Nat.{◌≤◌}
use Rattle.plan_rows.specs.Rows.{RowsPut}
use Rattle.plan_rows.proofs.rows.put_rows.Given as goal

abbrev pub invariant-loop-u : goal.invariant-loop-u
invariant-loop-u l =
    (l.u ≤ l.l.nodes) × RowsPut l.k l.l.period l.work l.u l.c l.q l.initial.out l.out l.at
