-- `network_validate::validate::validate_length` meets its contract.
use Rattle.network.specs.Validate.{blocks_few}
use native.Mathlib.Omega.{arith}
use Rattle.network.specs.Validate.{length_taken, length_passed, now_laid}
use Rattle.network_validate.proofs.validate.validate_length.Goals as goal

pub overflow_mul-l : goal.overflow_mul-l
overflow_mul-l c = omega (arith, blocks_few _ _ c.requires.within_limits c.layout-l.ensures)

pub returns-then-file-l : goal.returns-then-file-l
returns-then-file-l c = search length_taken

pub validate_form-requires-clause-laid : goal.validate_form-requires-clause-laid
validate_form-requires-clause-laid c = search now_laid

pub returns : goal.returns
returns c = search length_passed
