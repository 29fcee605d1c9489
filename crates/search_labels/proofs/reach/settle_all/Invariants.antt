-- `search_labels::reach::settle_all` meets its contract: each turn is a step of the theory. The measure falls
-- by one with each node settled: a node that is put into the frontier is one less without a label.
use Prim.Native.Nat.{◌+◌}
use Rattle.network.specs.{Town.graph_of, Decode.decode}
use Rattle.search_frontier.specs.Frontier.{unknown}
use Rattle.search_labels.specs.{Reach.Searching, Ready.permit_of}
use Rattle.search_labels.proofs.reach.settle_all.Given as goal

abbrev pub invariant-loop-frontier : goal.invariant-loop-frontier
invariant-loop-frontier l =
    Searching (graph_of (decode l.file)) (permit_of l.mask) l.q.source l.q.departure l.labels l.notes
    l.frontier.keys l.frontier.places l.frontier.size

abbrev pub decreases-loop-frontier : goal.decreases-loop-frontier
decreases-loop-frontier l = l.frontier.size + unknown l.labels
