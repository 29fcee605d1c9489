-- `network_validate::validate::validate_form` meets its contract.
use native.Mathlib.Omega.{arith}
use Rattle.network.specs.{Decode.laid_few, Validate.form_taken, Validate.form_passed}
use Rattle.network_validate.proofs.validate.validate_form.Goals as goal

pub overflow_cast-b : goal.overflow_cast-b
overflow_cast-b c = omega (arith, laid_few c.requires.laid)

pub returns-then-b-l : goal.returns-then-b-l
returns-then-b-l c = search form_taken

pub returns : goal.returns
returns c = search form_passed
