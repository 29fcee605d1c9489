-- `search_path::path::path` meets its contract: the note counts the path, and it is written where the list is
-- long enough.
use Rattle.search_path.specs.Trail.{listed_short, listed_way}
use Rattle.search_path.proofs.path.path.Goals as goal

pub returns-then-roads-count : goal.returns-then-roads-count
returns-then-roads-count c = search listed_short

pub returns : goal.returns
returns c = search listed_way
