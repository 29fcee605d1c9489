-- `plan_judge::first_failing` meets its contract.
use mathlib.Core.Path.{◌≡◌}
use Prim.Native.Nat.{◌-◌, ◌*◌, ◌≤◌}
use Rattle.theory_loops.specs.First as First
use Rattle.network.specs.{Decode.decode, Town.partition_of}
use Rattle.plan.specs.{Plan.point_start, PlanDecode.decode_plan}
use Rattle.node_verdict.specs.Lowest.{tells}
use Rattle.plan_judge.specs.Finding.{Lent}
use Rattle.plan_judge.specs.Standing.{Stands}
use Rattle.plan_judge.specs.Tally.{Row, Tally}
use Rattle.plan_judge.proofs.first_failing.Given as goal

abbrev pub invariant-ticks : goal.invariant-ticks
invariant-ticks l =
    (l.tick ≤ l.period) × (l.best ≡ l.initial.best) × (l.node ≡ l.initial.node) ×
    (First.first l.tick (tells l.marks l.number) ≡ l.tick)

abbrev pub decreases-ticks : goal.decreases-ticks
decreases-ticks l =
    l.period - l.tick

abbrev pub invariant-places : goal.invariant-places
invariant-places l =
    (l.node ≤ l.places)
    × Lent l.firsts l.lows l.so l.vo l.sa l.va l.sh l.vh l.marks
    × Stands (partition_of (decode l.network)) (decode_plan l.plan) l.i l.node l.best
    × (l.best.number ≤ l.initial.best.number)
    × Row (decode l.network) (decode_plan l.plan) l.i l.node l.best.number l.initial.finds l.finds

abbrev pub decreases-places : goal.decreases-places
decreases-places l =
    l.places - l.node

abbrev pub invariant-borders : goal.invariant-borders
invariant-borders l =
    (l.i ≤ l.count)
    × (l.from ≡ point_start (decode_plan l.plan) (l.i * l.l.plan.nodes))
    × Lent l.firsts l.lows l.so l.vo l.sa l.va l.sh l.vh l.marks
    × Stands (partition_of (decode l.network)) (decode_plan l.plan) l.i 0 l.best
    × Tally (decode l.network) (decode_plan l.plan) l.i l.best.number l.finds

abbrev pub decreases-borders : goal.decreases-borders
decreases-borders l =
    l.count - l.i
