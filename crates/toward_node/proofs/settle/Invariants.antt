-- `settle` meets its contract: the loop walks from each arc into v to the next, and those before have had
-- their turn.
use Prim.Native.Nat.{◌-◌}
use Rattle.toward_list.specs.Seen.{seen}
use Rattle.toward_node.specs.Turn.{Walking}
use Rattle.toward_node.proofs.settle.Given as goal

abbrev pub invariant-loop-a : goal.invariant-loop-a
invariant-loop-a l =
    Walking l.roads.file.now l.roads.layout l.v l.a l.reach l.bar l.hs
    (seen l.roads.layout.period l.initial.room l.initial.work)
    l.initial.near l.initial.room (seen l.roads.layout.period l.room l.work)
    l.near l.room

abbrev pub decreases-loop-a : goal.decreases-loop-a
decreases-loop-a l = l.roads.layout.arcs - l.a
