-- `plan_validate::validate::first_bad_form` meets its contract: each run's first block out of its form
-- decides, or leaves the answer to the next run.
use native.Mathlib.Omega.{arith}
use Rattle.file_forms.specs.Form.{run_taken, run_passed, run_last}
use Rattle.plan.specs.PlanDecode.{plan_small}
use Rattle.plan.specs.PlanValidate.{forms, flags_end, counts_end, points_end, unformed_told}
use Rattle.plan_validate.proofs.validate.first_bad_form.Goals as goal

pub first_unformed-i-requires-clause-run_in_file : goal.first_unformed-i-requires-clause-run_in_file
first_unformed-i-requires-clause-run_in_file c = rw c.flags_run.ensures (search forms)

pub first_unformed-i-requires-clause-per_bound : goal.first_unformed-i-requires-clause-per_bound
first_unformed-i-requires-clause-per_bound c = rw c.flags_run.ensures (omega (arith, plan_small c.requires))

pub returns-then-i-l : goal.returns-then-i-l
returns-then-i-l c =
    let e = rw c.flags_run.ensures at c.first_unformed-i.ensures in
    unformed_told c.requires _
    (run_taken _ _ _ _ _ _ _ _ e (flags_end c.requires) _ c.if-i-l.true)

pub first_unformed-j-requires-clause-run_in_file : goal.first_unformed-j-requires-clause-run_in_file
first_unformed-j-requires-clause-run_in_file c = rw c.counts_run.ensures (search forms)

pub first_unformed-j-requires-clause-per_bound : goal.first_unformed-j-requires-clause-per_bound
first_unformed-j-requires-clause-per_bound c = rw c.counts_run.ensures (omega (arith, plan_small c.requires))

pub returns-then-j-l : goal.returns-then-j-l
returns-then-j-l c =
    let e = rw c.flags_run.ensures at c.first_unformed-i.ensures in
    let f = rw c.counts_run.ensures at c.first_unformed-j.ensures in
    unformed_told c.requires _
    (run_passed _ _ _ _ _ _ _ _ e (flags_end c.requires) _ _ c.if-i-l.false
    (run_taken _ _ _ _ _ _ _ _ f (counts_end c.requires) _
    c.if-j-l.true))

pub first_unformed-requires-clause-run_in_file : goal.first_unformed-requires-clause-run_in_file
first_unformed-requires-clause-run_in_file c = rw c.points_run.ensures (search forms)

pub first_unformed-requires-clause-per_bound : goal.first_unformed-requires-clause-per_bound
first_unformed-requires-clause-per_bound c = rw c.points_run.ensures (omega (arith, plan_small c.requires))

pub returns : goal.returns
returns c =
    let e = rw c.flags_run.ensures at c.first_unformed-i.ensures in
    let f = rw c.counts_run.ensures at c.first_unformed-j.ensures in
    let g = rw c.points_run.ensures at c.first_unformed.ensures in
    unformed_told c.requires _
    (run_passed _ _ _ _ _ _ _ _ e (flags_end c.requires) _ _ c.if-i-l.false
    (run_passed _ _ _ _ _ _ _ _ f (counts_end c.requires) _ _
    c.if-j-l.false (run_last _ _ _ _ _ _ _ _ g (points_end c.requires))))
