-- `network_tables::rules::scan_arcs` meets its contract.
use mathlib.Core.Path.{◌≡◌}
use Prim.Native.Nat.{◌*◌, ◌≤◌}
use lib.ListN.{length, get_or}
use Rattle.theory_loops.specs.{First.first, Total.total}
use Rattle.network_tables.specs.Cut.{bad_arc_in}
use Rattle.network_tables.proofs.rules.scan_arcs.Given as goal

abbrev pub invariant-loop-a : goal.invariant-loop-a
invariant-loop-a l =
    (l.a ≤ length l.tails) × (first l.a (bad_arc_in l.nodes l.period l.tails l.heads l.counts) ≡ l.a)
    × (l.sum ≡ total l.a (λ i. get_or l.counts i 0)) × (l.sum ≤ 65535 * l.a)
