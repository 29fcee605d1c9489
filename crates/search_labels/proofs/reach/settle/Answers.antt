-- `search_labels::reach::settle` meets its contract: the loop walks from each arc out of u to the next, and
-- the arcs before are relaxed.
use Rattle.search_labels.specs.Walk.{walking_start, walking_end, walks}
use Rattle.search_labels.proofs.reach.settle.Goals as goal

pub take-requires : goal.take-requires
take-requires c = (search walks, search walks, search walks, search walks)

pub bounds-labels-u : goal.bounds-labels-u
bounds-labels-u c = search walks

pub bounds-notes-u : goal.bounds-notes-u
bounds-notes-u c = search walks

pub bounds-first-u : goal.bounds-first-u
bounds-first-u c = search walks

pub loop-a-init : goal.loop-a-init
loop-a-init c =
    walking_start c.requires.ready c.requires.frontier.0 c.requires.labels_len.0 c.requires.frontier.1 _ _
    c.take.ensures c.requires.frontier.2 c.requires.chained c.requires.labels_len.1
    c.from-a.ensures c.longer-base.ensures c.requires.u_bound.0 c.requires.u_bound.1

pub offset_bounds-next-a : goal.offset_bounds-next-a
offset_bounds-next-a c = search walks

pub bounds-next-a : goal.bounds-next-a
bounds-next-a c = search walks

pub loop-a-smaller : goal.loop-a-smaller
loop-a-smaller c = search walks

pub loop-a-preserved : goal.loop-a-preserved
loop-a-preserved c = search walks

pub shape_of-labels : goal.shape_of-labels
shape_of-labels c = c.loop-a.invariant.walked.done.size

pub returns : goal.returns
returns c =
    walking_end c.requires.frontier.0 c.requires.frontier.1 c.take.ensures c.loop-a.invariant
    c.loop-a-test.false
