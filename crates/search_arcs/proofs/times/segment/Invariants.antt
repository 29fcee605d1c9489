-- `search_arcs::times::segment` meets its contract: the first point that is left is at or before x, the one
-- behind the last is after it, and they come together by halves.
use Prim.Native.Nat.{◌+◌}
use Rattle.theory_travel.specs.{Table.entry_at, Search.Between}
use Rattle.network.specs.Decode.{decode}
use Rattle.search_arcs.proofs.times.segment.Given as goal

abbrev pub invariant-loop-left : goal.invariant-loop-left
invariant-loop-left l =
    Between (entry_at (decode l.file).ticks l.s.first) l.n l.x l.a (l.a + l.left)

abbrev pub decreases-loop-left : goal.decreases-loop-left
decreases-loop-left l = l.left
