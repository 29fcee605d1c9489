-- `search_arcs::chain::chain` meets its contract: the invariant is that both tables are as they should be for
-- the arcs passed, from the last on.
use Rattle.search_chains.specs.Chain.{chains}
use borrow.Author.Rules.{rules}
use Rattle.search_chains.proofs.chain.chain.Goals as goal

pub loop-k-init : goal.loop-k-init
loop-k-init c = (search rules, search rules, search chains)

pub end_of-v-requires-clause-town : goal.end_of-v-requires-clause-town
end_of-v-requires-clause-town c = c.requires.town

pub loop-k-preserved : goal.loop-k-preserved
loop-k-preserved c = (search rules, search rules, search (chains, rules))

pub returns : goal.returns
returns c = search chains
