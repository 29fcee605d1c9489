-- `search_labels::reach::settle_all` meets its contract: each turn is a step of the theory. The measure falls
-- by one with each node settled: a node that is put into the frontier is one less without a label.
use Rattle.search_labels.specs.{Reach.turns}
use borrow.Author.Rules.{rules}
use Rattle.search_labels.proofs.reach.settle_all.Goals as goal

pub loop-frontier-init : goal.loop-frontier-init
loop-frontier-init c = search turns

pub nearest-requires : goal.nearest-requires
nearest-requires c = (search rules, search turns, search turns)

pub shape_of-labels-then-u-q : goal.shape_of-labels-then-u-q
shape_of-labels-then-u-q c = search turns

pub returns-then-u-q : goal.returns-then-u-q
returns-then-u-q c = (search turns, search turns)

pub settle-requires-clause-labels_len : goal.settle-requires-clause-labels_len
settle-requires-clause-labels_len c = (search turns, search turns)

pub settle-requires-clause-u_bound : goal.settle-requires-clause-u_bound
settle-requires-clause-u_bound c = (search turns, search rules)

pub settle-requires-clause-frontier : goal.settle-requires-clause-frontier
settle-requires-clause-frontier c = (search rules, search turns, search turns)

pub loop-frontier-smaller : goal.loop-frontier-smaller
loop-frontier-smaller c = c.settle.ensures.sum

pub loop-frontier-preserved : goal.loop-frontier-preserved
loop-frontier-preserved c = search turns

pub shape_of-labels : goal.shape_of-labels
shape_of-labels c = search turns

pub returns : goal.returns
returns c = (search turns, search turns)
