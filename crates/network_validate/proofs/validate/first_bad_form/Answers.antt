-- `network_validate::validate::first_bad_form` meets its contract.
use native.Mathlib.Omega.{arith}
use Rattle.file_forms.specs.Form.{run_taken, run_passed, run_last}
use Rattle.network.specs.Decode.{laid_small}
use Rattle.network.specs.Validate.{forms, nodes_end, arcs_end, points_end, unformed_told}
use Rattle.network_validate.proofs.validate.first_bad_form.Goals as goal

pub returns-then-i-l : goal.returns-then-i-l
returns-then-i-l c = search forms

pub first_unformed-j-requires-clause-run_in_file : goal.first_unformed-j-requires-clause-run_in_file
first_unformed-j-requires-clause-run_in_file c = rw c.arcs_run.ensures (search forms)

pub first_unformed-j-requires-clause-per_bound : goal.first_unformed-j-requires-clause-per_bound
first_unformed-j-requires-clause-per_bound c = rw c.arcs_run.ensures (omega (arith, laid_small c.requires))

pub returns-then-j-l : goal.returns-then-j-l
returns-then-j-l c =
    let f = rw c.arcs_run.ensures at c.first_unformed-j.ensures in
    unformed_told c.requires _
    (run_passed _ _ _ _ _ _ _ _ c.first_bad_nodes-i.ensures (nodes_end c.requires) _ _ c.if-i-l.false
    (run_taken _ _ _ _ _ _ _ _ f (arcs_end c.requires) _ c.if-j-l.true))

pub first_unformed-requires-clause-run_in_file : goal.first_unformed-requires-clause-run_in_file
first_unformed-requires-clause-run_in_file c = rw c.points_run.ensures (search forms)

pub first_unformed-requires-clause-per_bound : goal.first_unformed-requires-clause-per_bound
first_unformed-requires-clause-per_bound c = rw c.points_run.ensures (omega (arith, laid_small c.requires))

pub returns : goal.returns
returns c =
    let f = rw c.arcs_run.ensures at c.first_unformed-j.ensures in
    let g = rw c.points_run.ensures at c.first_unformed.ensures in
    unformed_told c.requires _
    (run_passed _ _ _ _ _ _ _ _ c.first_bad_nodes-i.ensures (nodes_end c.requires) _ _ c.if-i-l.false
    (run_passed _ _ _ _ _ _ _ _ f (arcs_end c.requires) _ _
    c.if-j-l.false (run_last _ _ _ _ _ _ _ _ g (points_end c.requires))))
