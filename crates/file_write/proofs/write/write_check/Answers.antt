-- `file_write::write::write_check` meets its contract: the sums of the part lent, as two fields.
use Rattle.file_write.specs.Write.{sealed_is}
use Rattle.file_write.proofs.write.write_check.Goals as goal

pub returns : goal.returns
returns c = search sealed_is
