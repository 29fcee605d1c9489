-- `node_bare::is_ahead` meets its contract.
use Prim.Native.Nat.{◌-◌}
use Rattle.network.specs.{Network.tail, Decode.decode, Town.partition_of}
use Rattle.search_chains.specs.Chain.{Walking}
use Rattle.plan.specs.PlanDecode.{decode_plan}
use Rattle.node_bare.specs.Ahead.{ahead}
use Rattle.node_bare.proofs.is_ahead.Given as goal

abbrev pub invariant-loop-a : goal.invariant-loop-a
invariant-loop-a l =
    Walking (tail (decode l.network)) l.l.network.nodes l.l.network.arcs l.first l.next
    (ahead (partition_of (decode l.network)) (decode_plan l.plan) l.i l.node) l.node l.a

abbrev pub decreases-loop-a : goal.decreases-loop-a
decreases-loop-a l = l.arcs - l.a
