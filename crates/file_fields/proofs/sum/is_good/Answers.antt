-- `file_fields::sum::is_good` meets its contract: the first comparison decides, or leaves the answer to the
-- second.
use Rattle.file_fields.specs.Sum.{good_first, good_second}
use Rattle.file_fields.proofs.sum.is_good.Goals as goal

pub returns-then-r-le16 : goal.returns-then-r-le16
returns-then-r-le16 c = search good_second

pub returns-else-r-le16 : goal.returns-else-r-le16
returns-else-r-le16 c = search good_first
