-- `search_path::search_nodes` meets its contract: what is told by the labels and notes that the search left
-- is told by the true labels.
use Rattle.search_path.specs.Answering.{tellable, answered}
use Rattle.search_path.proofs.search_nodes.Goals as goal

pub tell-answer-requires-clause-town : goal.tell-answer-requires-clause-town
tell-answer-requires-clause-town c = c.requires.town

pub tell-answer-requires-clause-tellable : goal.tell-answer-requires-clause-tellable
tell-answer-requires-clause-tellable c = tellable c.requires.town c.requires.source_lt_nodes.0 c.requires.source_lt_nodes.1 c.requires.source_lt_nodes.2 c.reach.ensures.0

pub trim-requires : goal.trim-requires
trim-requires c =
    (tellable c.requires.town c.requires.source_lt_nodes.0 c.requires.source_lt_nodes.1 c.requires.source_lt_nodes.2 c.reach.ensures.0).inside

pub returns : goal.returns
returns c =
    answered c.args.mask.now c.requires.town c.requires.source_lt_nodes.0 c.requires.source_lt_nodes.1 c.requires.source_lt_nodes.2 c.requires.arcs_in_bounds.1 c.reach.ensures
    c.tell-answer.ensures c.trim.ensures
