-- `search_arcs::times::stretch_of` meets its contract: a block's points are passed where the next block's
-- first is at or before x, and the walk ends where it is not, or no point follows.
use Prim.Native.Nat.{◌-◌}
use Rattle.network.specs.Decode.{decode}
use Rattle.search_arcs.specs.Stretches.{Passed}
use Rattle.search_arcs.proofs.times.stretch_of.Given as goal

abbrev pub invariant-loop-s : goal.invariant-loop-s
invariant-loop-s l = Passed (decode l.file).ticks l.l l.from l.count l.x l.s

abbrev pub decreases-loop-s : goal.decreases-loop-s
decreases-loop-s l = l.end - l.s.first
