-- `plan_flags::inside_word` meets its contract: two cells have no flag, and one cell has its own alone.
use Rattle.search_chains.specs.Town.{tail_node, town_reads}
use Rattle.plan_flags.specs.Words.{cell_few, word_apart, word_inside}
use mathlib.Core.Path.{◌∙◌}
use Rattle.plan_flags.proofs.inside_word.Goals as goal

pub cell-from-requires-clause-v_lt_nodes : goal.cell-from-requires-clause-v_lt_nodes
cell-from-requires-clause-v_lt_nodes c = search town_reads

pub cell-to-requires-clause-v_lt_nodes : goal.cell-to-requires-clause-v_lt_nodes
cell-to-requires-clause-v_lt_nodes c = search town_reads

pub returns-then-from-to : goal.returns-then-from-to
returns-then-from-to c = word_apart c.requires.town c.requires.a_lt_arcs c.tail-tail.ensures.0
    c.head-head.ensures.0 c.cell-from.ensures.0
    c.cell-to.ensures.0 c.if-from-to.true

pub alone-requires : goal.alone-requires
alone-requires c = cell_few c.requires.town
    (tail_node c.requires.town _ _ c.requires.a_lt_arcs c.tail-tail.ensures.0)
    c.cell-from.ensures.0

pub returns : goal.returns
returns c = c.alone.ensures
    ∙ word_inside c.requires.town c.requires.a_lt_arcs c.tail-tail.ensures.0
    c.head-head.ensures.0 c.cell-from.ensures.0
    c.cell-to.ensures.0 c.if-from-to.false
