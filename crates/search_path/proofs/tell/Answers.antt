-- `search_path::tell` meets its contract: each way out is a case of `answer_of`.
use Rattle.search_path.specs.Answering.{tells}
use borrow.Author.Rules.{rules}
use Rattle.search_path.proofs.tell.Goals as goal

pub returns-then-tick : goal.returns-then-tick
returns-then-tick c = search tells

pub path-count-requires-clause-trail : goal.path-count-requires-clause-trail
path-count-requires-clause-trail c = (search tells, search rules)

pub returns-then-roads-count : goal.returns-then-roads-count
returns-then-roads-count c = search tells

pub returns : goal.returns
returns c = search tells
