-- `file_fields::fields::put8` meets its contract.
use Rattle.file_fields.specs.Put.{put_one}
use borrow.Author.Rules.{rules}
use Rattle.file_fields.proofs.fields.put8.Goals as goal

pub returns : goal.returns
returns c = put_one _ _ _ (search rules)
