-- `day_merge::sweep` meets its contract: the walk stands at tick t, in run i of the node, and in run j of the
-- head at the tick at which the arc ends.
use mathlib.Core.Path.{◌≡◌}
use Prim.Native.Nat.{◌+◌, ◌-◌, ◌≤◌, ◌<◌}
use lib.ListN.{length}
use Rattle.day_walk.specs.Walk.{At}
use Rattle.day_merge.specs.Merged.{Onward}
use Rattle.day_merge.proofs.sweep.Given as goal

abbrev pub invariant-loop-t : goal.invariant-loop-t
invariant-loop-t l =
    let s = l.sides in
    (l.from ≤ l.t) × (l.t ≤ l.stop) × (l.t < s.own.period → At s.own.starts.now s.own.count l.i l.t)
    × (l.t < l.stop → At s.head.starts.now s.head.count l.j (l.e + (l.t - l.from)))
    × (l.j ≤ s.head.count) × (l.since ≤ l.t) × (length l.marks ≡ length l.initial.marks)
    × Onward s.own.starts.now s.own.values.now s.arc.starts.now s.arc.values.now s.head.starts.now
    s.head.values.now s.own.count s.arc.count s.head.count s.own.period s.same l.initial.since l.from
    l.initial.held l.since l.t l.held l.initial.marks l.marks

abbrev pub decreases-loop-t : goal.decreases-loop-t
decreases-loop-t l =
    l.stop - l.t
