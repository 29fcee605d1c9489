use Prim.Native.Nat.{◌≤◌}
use Rattle.plan_rows.specs.Points.{PutPoints}
use Rattle.plan_rows.proofs.points.put_each.Given as goal

abbrev pub invariant-loop-x : goal.invariant-loop-x
invariant-loop-x l = (l.a ≤ l.x) × (l.x ≤ l.b) × PutPoints l.k l.row l.a l.x l.q l.initial.out l.out l.at
