-- `search_labels::reach::reach` meets its contract: by the tables of the arcs, and from the source's label
-- alone, all is settled.
use Rattle.search_chains.specs.Town.{fresh_tables}
use Rattle.search_labels.specs.Ready.{ready_of}
use borrow.Author.Rules.{rules}
use Rattle.search_labels.proofs.reach.reach.Goals as goal

pub fill-requires-clause-unchained : goal.fill-requires-clause-unchained
fill-requires-clause-unchained c = (search fresh_tables, search rules, search rules)

pub settle_all-requires-clause-ready : goal.settle_all-requires-clause-ready
settle_all-requires-clause-ready c = ready_of c.requires.town.0 c.requires.town.1 c.fill.ensures.1

pub settle_all-requires-clause-chained : goal.settle_all-requires-clause-chained
settle_all-requires-clause-chained c = c.fill.ensures.0

pub settle_all-requires-clause-source_lt_nodes : goal.settle_all-requires-clause-source_lt_nodes
settle_all-requires-clause-source_lt_nodes c = (c.requires.source_lt_nodes.0, c.requires.source_lt_nodes.1)

pub settle_all-requires-clause-started : goal.settle_all-requires-clause-started
settle_all-requires-clause-started c = (rw c.requires.source_lt_nodes.2 at c.start.ensures, c.requires.source_lt_nodes.3)

pub returns : goal.returns
returns c = c.settle_all.ensures
