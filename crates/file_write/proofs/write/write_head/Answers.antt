-- `file_write::write::write_head` meets its contract: three fields, one after the other.
use Rattle.file_write.specs.Write.{headed_is}
use Rattle.file_write.proofs.write.write_head.Goals as goal

pub returns : goal.returns
returns c = headed_is _ _ _ _ _ _ _ (rw c.from.ensures at c.put16.ensures) c.put16-2.ensures c.put32.ensures
