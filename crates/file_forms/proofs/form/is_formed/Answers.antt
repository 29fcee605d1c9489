-- `file_forms::form::is_formed` meets its contract: each test decides, or leaves the answer to those after
-- it.
use Rattle.file_forms.specs.Form.{forms}
use Rattle.file_forms.proofs.form.is_formed.Goals as goal

pub returns-then-le32-b : goal.returns-then-le32-b
returns-then-le32-b c = search forms

pub returns-else-le32-b : goal.returns-else-le32-b
returns-else-le32-b c = search forms

pub returns-else-le16-entries : goal.returns-else-le16-entries
returns-else-le16-entries c = search forms

pub returns-else-file-at-eq0 : goal.returns-else-file-at-eq0
returns-else-file-at-eq0 c = search forms

pub returns-else-file-at : goal.returns-else-file-at
returns-else-file-at c = search forms
