-- `search_arcs::times::first_points` meets its contract: the sum is that of the counts passed, and fits 16
-- bits, since all points do.
use mathlib.Core.Path.{◌≡◌}
use Prim.Native.Nat.{◌≤◌}
use Rattle.theory_loops.specs.{Total.total, Fill.Filled}
use Rattle.network.specs.{Decode.decode, Network.count, Network.start}
use Rattle.search_arcs.proofs.times.first_points.Given as goal

abbrev pub invariant-loop-a : goal.invariant-loop-a
invariant-loop-a l =
    (l.a ≤ l.a-end) × (l.a-end ≡ l.l.arcs) × (l.sum ≡ total l.a (count (decode l.file)))
    × Filled 0 l.a (start (decode l.file)) l.initial.starts l.starts
