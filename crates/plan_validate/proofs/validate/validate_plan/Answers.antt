-- `plan_validate::validate::validate_plan` meets its contract: the length decides, then whether the file is
-- well-formed, then the first bad sum, or the answer is left to the first block.
use mathlib.Core.{Path.◌≡◌, Path.sym, Bool.false}
use Prim.Native.Nat.{◌≤◌}
use native.Mathlib.Omega.{arith}
use lib.ListN.{length}
use Rattle.theory_loops.specs.{First.told, Pick.picks, Pick.passed, Pick.at_first, Pick.past_first}
use Rattle.file_fields.specs.Block.{block_size}
use Rattle.file_forms.specs.Form.{bad_length, length_fine}
use Rattle.plan.specs.{PlanLimits.most_plan_bytes, PlanValidate.planned, PlanValid.plan_exactly}
use Rattle.plan_validate.proofs.validate.validate_plan.Goals as goal

pub returns-then-is_bad_length : goal.returns-then-is_bad_length
unfolding planned
returns-then-is_bad_length c = search picks

pub is_well_formed-requires-clause-block_size_in_bounds : goal.is_well_formed-requires-clause-block_size_in_bounds
is_well_formed-requires-clause-block_size_in_bounds c =
    let fine : let n = length c.args.plan.now in
    (block_size ≤ n) × (n ≤ most_plan_bytes) =
    length_fine _ _ _ c.is_bad_length.ensures c.if-is_bad_length.false in
    fine.0

pub header_at-requires : goal.header_at-requires
header_at-requires c =
    let fine : let n = length c.args.plan.now in
    (block_size ≤ n) × (n ≤ most_plan_bytes) =
    length_fine _ _ _ c.is_bad_length.ensures c.if-is_bad_length.false in
    fine.0

pub returns-then-is_well_formed : goal.returns-then-is_well_formed
returns-then-is_well_formed c =
    rw c.header_at.ensures
    (sym ((plan_exactly c.requires.valid_file _ _).1
    (c.is_well_formed.ensures c.if-is_well_formed.true)))

pub overflow_cast-b : goal.overflow_cast-b
overflow_cast-b c =
    let fine : let n = length c.args.plan.now in
    (block_size ≤ n) × (n ≤ most_plan_bytes) =
    length_fine _ _ _ c.is_bad_length.ensures c.if-is_bad_length.false in
    omega (arith, fine)

pub returns-then-b-plan : goal.returns-then-b-plan
unfolding planned
returns-then-b-plan c =
    let length_passed : bad_length most_plan_bytes (length c.args.plan.now) ≡ false =
    told _ _ _ c.is_bad_length.ensures c.if-is_bad_length.false in
    passed _ _ _ _ length_passed
    (at_first _ _ _ _ _ _ c.first_bad_sum-b.ensures c.if-b-plan.true
    c.refused-then-b-plan.ensures)

pub validate_first-requires-clause-block_size_in_bounds : goal.validate_first-requires-clause-block_size_in_bounds
validate_first-requires-clause-block_size_in_bounds c =
    let fine : let n = length c.args.plan.now in
    (block_size ≤ n) × (n ≤ most_plan_bytes) =
    length_fine _ _ _ c.is_bad_length.ensures c.if-is_bad_length.false in
    fine.0

pub returns : goal.returns
unfolding planned
returns c =
    let length_passed : bad_length most_plan_bytes (length c.args.plan.now) ≡ false =
    told _ _ _ c.is_bad_length.ensures c.if-is_bad_length.false in
    passed _ _ _ _ length_passed
    (past_first _ _ _ _ _ _ c.first_bad_sum-b.ensures c.if-b-plan.false
    c.validate_first.ensures)
