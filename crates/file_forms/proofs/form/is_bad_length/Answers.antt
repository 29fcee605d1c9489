-- `file_forms::form::is_bad_length` meets its contract.
use Rattle.theory_loops.specs.Pick.{picks}
use Rattle.file_forms.specs.Form.{bad_length}
use Rattle.file_forms.proofs.form.is_bad_length.Goals as goal

pub returns-then-long-eq0 : goal.returns-then-long-eq0
unfolding bad_length
returns-then-long-eq0 c = search picks depth 6

pub returns-then-long-ne0 : goal.returns-then-long-ne0
unfolding bad_length
returns-then-long-ne0 c = search picks depth 6

pub returns : goal.returns
unfolding bad_length
returns c = search picks depth 6
