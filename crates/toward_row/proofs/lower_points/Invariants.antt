-- `toward_row::lower_points` meets its contract: before tick `flat` all is lowered, from there up to the tick
-- of point k the travel is v, and it waits.
use mathlib.Core.Path.{◌≡◌}
use Prim.Native.Nat.{◌≤◌}
use Rattle.theory_travel.specs.Table.{entry_at, value_at}
use Rattle.network.specs.Decode.{decode}
use Rattle.toward_row.specs.{Cut.Cut, Lower.entries, Lower.lowered}
use Rattle.toward_row.specs.Arcs.{Flat}
use Rattle.toward_row.proofs.lower_points.Given as goal

abbrev pub invariant-loop-k : goal.invariant-loop-k
invariant-loop-k l =
    (l.k ≤ l.last) × (l.a ≡ entry_at (decode l.file).ticks l.from l.k) ×
    (l.v ≡ entry_at (decode l.file).travels l.from l.k)
    × Flat (value_at (decode l.file).ticks (decode l.file).travels l.from l.count l.l.period) l.flat l.a l.v
    × Cut l.first 0 l.flat
    (lowered l.first (value_at (decode l.file).ticks (decode l.file).travels l.from l.count l.l.period)
    (entries l.hs)
    l.l.period l.initial.row) l.initial.row l.row l.fallen
