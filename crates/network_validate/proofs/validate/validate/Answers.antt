-- `network_validate::validate::validate` meets its contract.
use Rattle.file_forms.specs.Form.{length_fine}
use native.Mathlib.Omega.{arith}
use Rattle.network.specs.Validate.{validated}
use Rattle.theory_loops.specs.Pick.{picks}
use Rattle.network_validate.proofs.validate.validate.Goals as goal

pub returns-then-is_bad_length : goal.returns-then-is_bad_length
unfolding validated
returns-then-is_bad_length c = search picks

pub overflow_cast-b : goal.overflow_cast-b
overflow_cast-b c = omega (
  arith,
  length_fine _ _ _ c.is_bad_length.ensures
      c.if-is_bad_length.false,
)

pub returns-then-b-file : goal.returns-then-b-file
unfolding validated
returns-then-b-file c = search picks

pub validate_first-requires : goal.validate_first-requires
validate_first-requires c =
    omega (
      arith,
      length_fine _ _ _ c.is_bad_length.ensures
          c.if-is_bad_length.false,
    )

pub returns : goal.returns
unfolding validated
returns c = search picks
