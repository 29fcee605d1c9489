-- `node_runs::judge_node` meets its contract: the walk stands at arc a, and the arcs before it are met.
use Prim.Native.Nat.{◌-◌}
use Rattle.network.specs.Decode.{decode}
use Rattle.plan.specs.PlanDecode.{decode_plan}
use Rattle.plan_tests.specs.{Finds.Counted}
use Rattle.node_runs.specs.Finding.{found_before}
use Rattle.node_runs.specs.Judged.{Judging}
use Rattle.node_runs.specs.Ready.{Stays}
use Rattle.node_runs.proofs.judge_node.Given as goal

abbrev pub invariant-loop-a : goal.invariant-loop-a
invariant-loop-a l =
    Stays l.initial.sa l.initial.va l.initial.sh l.initial.vh l.initial.marks l.sa l.va l.sh l.vh l.marks
    × Judging l.network l.l.network (decode_plan l.plan) l.first l.next l.target.cell l.target.number l.node
    l.l.network.period l.a l.marks
    × Counted 0 (found_before (decode l.network) (decode_plan l.plan) l.target.number l.node l.a)
    l.initial.finds l.finds

abbrev pub decreases-loop-a : goal.decreases-loop-a
decreases-loop-a l =
    l.arcs - l.a
