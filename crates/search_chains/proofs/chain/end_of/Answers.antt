-- `search_arcs::chain::end_of` meets its contract: each arm reads the end that it names.
use Rattle.search_chains.specs.Town.{town_reads}
use borrow.Author.Rules.{rules}
use Rattle.search_chains.proofs.chain.end_of.Goals as goal

pub returns-in-Tail : goal.returns-in-Tail
returns-in-Tail c = (rw c.in-Tail.is c.tail.ensures.0, search (town_reads, rules))

pub returns-in-Head : goal.returns-in-Head
returns-in-Head c = (rw c.in-Head.is c.head.ensures.0, search (town_reads, rules))
