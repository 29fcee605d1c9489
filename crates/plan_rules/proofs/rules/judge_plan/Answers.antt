-- `plan_rules::rules::judge_plan` meets its contract: the flags decide, or leave the answer to the
-- profiles.
use native.Mathlib.Omega.{arith}
use Rattle.theory_loops.specs.Pick.{picks}
use Rattle.plan.specs.{PlanDecode.plan_small, PlanRules.judged_flags}
use Rattle.plan_rules.proofs.rules.judge_plan.Goals as goal

pub overflow_cast-a : goal.overflow_cast-a
overflow_cast-a c = omega (arith, plan_small c.requires)

pub returns-then-a-l : goal.returns-then-a-l
unfolding judged_flags
returns-then-a-l c = search picks

pub returns : goal.returns
unfolding judged_flags
returns c = search picks
