-- `search_path::search` meets its contract: what holds of the lent part of the arrivals holds of the whole
-- list.
use native.Mathlib.Omega.{arith}
use lib.{Seq.length-take-le, ListN.length-take}
use Rattle.network.specs.Decode.{laid_sizes}
use Rattle.search_path.specs.Answering.{answered_front}
use Rattle.search_chains.specs.Town.{town_of}
use borrow.Author.Rules.{rules}
use Rattle.search_path.proofs.search.Goals as goal

pub slice_bounds-search_nodes-end-2 : goal.slice_bounds-search_nodes-end-2
slice_bounds-search_nodes-end-2 c = simp length-take (omega arith)

pub search_nodes-requires-clause-town : goal.search_nodes-requires-clause-town
search_nodes-requires-clause-town c = search town_of

pub search_nodes-requires-clause-arcs_in_bounds : goal.search_nodes-requires-clause-arcs_in_bounds
search_nodes-requires-clause-arcs_in_bounds c = search (length-take-le, rules)

pub returns : goal.returns
returns c =
    answered_front _ _ _ _ _ _ _ _ _ _ _ (laid_sizes c.requires.laid).nodes c.requires.arcs_in_bounds.1 c.search_nodes.ensures
