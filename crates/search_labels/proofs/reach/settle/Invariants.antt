-- `search_labels::reach::settle` meets its contract: the loop walks from each arc out of u to the next, and
-- the arcs before are relaxed.
use Prim.Native.Nat.{◌-◌}
use Rattle.search_labels.specs.Walk.{Walking}
use Rattle.search_labels.proofs.reach.settle.Given as goal

abbrev pub invariant-loop-a : goal.invariant-loop-a
invariant-loop-a l =
    Walking l.file l.l l.mask l.heads l.starts l.first l.next l.u l.tick l.base l.a l.initial.labels l.labels
    l.initial.notes l.notes l.initial.frontier.keys l.frontier.keys l.frontier.places
    l.initial.frontier.size l.frontier.size

abbrev pub decreases-loop-a : goal.decreases-loop-a
decreases-loop-a l = l.l.arcs - l.a
