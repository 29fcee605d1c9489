-- `work_out` meets its contract: what is left to do falls with each turn, and where no dirty node is near
-- enough the numbers that are wanted are least, once they all stand in the list.
use mathlib.Core.Path.{◌≡◌}
use lib.ListN.{length}
use Rattle.toward_list.specs.Seen.{seen}
use Rattle.toward_node.specs.Turn.{left, Waiting}
use Rattle.toward_node.proofs.work_out.Given as goal

abbrev pub invariant-loop-v : goal.invariant-loop-v
invariant-loop-v l =
    Waiting l.roads.file.now l.l l.b l.goal l.bar (seen l.l.period l.room l.work) l.near l.room l.low l.v ×
    (length l.hs ≡ length l.initial.hs)

abbrev pub decreases-loop-v : goal.decreases-loop-v
decreases-loop-v l =
    left l.l (seen l.l.period l.room l.work) l.near
