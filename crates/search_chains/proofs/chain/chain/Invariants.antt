-- `search_arcs::chain::chain` meets its contract: the invariant is that both tables are as they should be for
-- the arcs passed, from the last on.
use Prim.Native.Nat.{◌≤◌, ◌-◌}
use Rattle.network.specs.{Limits.most_arcs, Decode.decode}
use Rattle.search_chains.specs.Chain.{end_of, Chained}
use Rattle.search_chains.proofs.chain.chain.Given as goal

abbrev pub invariant-loop-k : goal.invariant-loop-k
invariant-loop-k l =
    (l.k ≤ l.arcs) × (l.arcs ≤ most_arcs) × Chained (end_of (decode l.file) l.end) l.l.nodes l.arcs (l.arcs - l.k) l.first l.next
