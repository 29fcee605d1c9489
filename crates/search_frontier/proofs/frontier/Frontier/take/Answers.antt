-- `search_frontier::frontier::Frontier::take` meets its contract: its two writes are the two
-- equations of `Taken`.
use Rattle.search_frontier.specs.Take.{taken}
use Rattle.search_frontier.proofs.frontier.Frontier.take.Goals as goal

pub returns : goal.returns
returns c = search taken
