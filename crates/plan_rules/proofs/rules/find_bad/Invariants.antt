-- `plan_rules::rules::find_bad` meets its contract: the points passed keep the rule, the next tick's range
-- goes by the last, and the walk stands before the next point.
use Rattle.plan.specs.PlanDecode.{decode_plan}
use Rattle.plan_rules.specs.PlanScan.{Scanning}
use Rattle.plan_rules.proofs.rules.find_bad.Given as goal

abbrev pub invariant-loop-i : goal.invariant-loop-i
invariant-loop-i l =
    Scanning (decode_plan l.plan) l.l l.from l.count l.i l.low l.high l.next
