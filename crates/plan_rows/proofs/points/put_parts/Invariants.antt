use Prim.Native.Nat.{◌-◌, ◌≤◌}
use Rattle.plan_rows.specs.Points.{PutPoints}
use Rattle.plan_rows.proofs.points.put_parts.Given as goal

abbrev pub invariant-loop-x : goal.invariant-loop-x
invariant-loop-x l = (1 ≤ l.x) × (l.x ≤ l.last) × PutPoints l.k l.row 1 l.x l.q l.initial.out l.out l.at

abbrev pub decreases-loop-x : goal.decreases-loop-x
decreases-loop-x l = l.last - l.x
