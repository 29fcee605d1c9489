-- `day_merge::merge` meets its contract: the walk stands at place p, in run k of the arc.
use Prim.Native.Nat.{◌-◌, ◌≤◌, ◌<◌}
use Rattle.day_walk.specs.Walk.{At}
use Rattle.day_merge.specs.Merged.{Walked}
use Rattle.day_merge.proofs.merge.Given as goal

abbrev pub invariant-loop-p : goal.invariant-loop-p
invariant-loop-p l =
    let s = l.sides in
    (l.p.t ≤ s.own.period) × (l.p.t < s.own.period → At s.own.starts.now s.own.count l.p.i l.p.t)
    × (l.p.t < s.own.period → At s.arc.starts.now s.arc.count l.k l.p.t)
    × (l.p.j ≤ s.head.count)
    × Walked s.own.starts.now s.own.values.now s.arc.starts.now s.arc.values.now s.head.starts.now
    s.head.values.now s.own.count s.arc.count s.head.count s.own.period s.same l.p.since l.p.t
    l.p.held l.initial.marks l.marks

abbrev pub decreases-loop-p : goal.decreases-loop-p
decreases-loop-p l =
    l.sides.own.period - l.p.t
