-- `network_tables::steady::are_closed` meets its contract.
use Prim.Native.Nat.{◌≤◌}
use lib.ListN.{length}
use Rattle.network_tables.specs.{Cut.bare, Steady.Closing}
use Rattle.network_tables.proofs.steady.are_closed.Given as goal

abbrev pub invariant-loop-a : goal.invariant-loop-a
invariant-loop-a l =
    (l.a ≤ length l.counts) × Closing (bare l.period l.counts l.ticks l.travels) l.a l.from
