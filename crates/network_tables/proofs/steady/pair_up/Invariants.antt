-- `network_tables::steady::pair_up` meets its contract.
use Rattle.network_tables.specs.{Pairs.Paired}
use Prim.Native.Nat.{◌-◌, ◌≤◌}
use lib.ListN.{length}
use Rattle.network_tables.proofs.steady.pair_up.Given as goal

abbrev pub invariant-loop-q : goal.invariant-loop-q
invariant-loop-q l =
    (l.q ≤ length l.ticks - 1) × Paired l.period l.ticks l.travels l.q (record { starts = l.starts; fault = l.over })
