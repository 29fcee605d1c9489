-- `plan_rules::rules::judge_profiles` meets its contract: `Passing` holds before each profile, and at the
-- end it tells the answer.
use Rattle.plan.specs.PlanDecode.{decode_plan}
use Rattle.plan_rules.specs.PlanScanAll.{Passing}
use Rattle.plan_rules.proofs.rules.judge_profiles.Given as goal

abbrev pub invariant-loop-k : goal.invariant-loop-k
invariant-loop-k l =
    Passing (decode_plan l.plan) l.l l.k l.from l.counts l.scan
