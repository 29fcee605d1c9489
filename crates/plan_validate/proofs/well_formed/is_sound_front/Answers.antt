-- `plan_validate::well_formed::is_sound_front` meets its contract.
use mathlib.Core.{Path.sym, Bool.true≢false}
use native.Mathlib.Omega.{arith}
use Rattle.plan.specs.{PlanDecode.laid_plan, PlanDecode.plan_small, PlanValidate.forms}
use Rattle.plan_validate.specs.Good.{front_sound}
use Rattle.plan_validate.proofs.well_formed.is_sound_front.Goals as goal

pub first_bad_before-requires : goal.first_bad_before-requires
first_bad_before-requires c = omega (arith, c.requires.long, laid_plan c.requires)

pub returns-then-first_bad_before-l : goal.returns-then-first_bad_before-l
returns-then-first_bad_before-l c = λ e. absurd (true≢false (sym e))

pub first_unformed-i-requires-clause-run_in_file : goal.first_unformed-i-requires-clause-run_in_file
first_unformed-i-requires-clause-run_in_file c =
    rw c.flags_run.ensures (search forms)

pub first_unformed-i-requires-clause-per_bound : goal.first_unformed-i-requires-clause-per_bound
first_unformed-i-requires-clause-per_bound c =
    rw c.flags_run.ensures (omega (arith, plan_small c.requires))

pub returns-then-i-l : goal.returns-then-i-l
returns-then-i-l c = λ e. absurd (true≢false (sym e))

pub first_unformed-j-requires-clause-run_in_file : goal.first_unformed-j-requires-clause-run_in_file
first_unformed-j-requires-clause-run_in_file c =
    rw c.counts_run.ensures (search forms)

pub first_unformed-j-requires-clause-per_bound : goal.first_unformed-j-requires-clause-per_bound
first_unformed-j-requires-clause-per_bound c =
    rw c.counts_run.ensures (omega (arith, plan_small c.requires))

pub returns : goal.returns
returns c =
    let f = rw c.flags_run.ensures at c.first_unformed-i.ensures in
    let g = rw c.counts_run.ensures at c.first_unformed-j.ensures in
    front_sound c.requires _ _ _ c.first_bad_before.ensures c.if-first_bad_before-l.false
    f c.if-i-l.false g
