-- `leasts::least_of_arcs` meets its contract: the arcs passed have their least travel.
use Prim.Native.Nat.{◌≤◌}
use lib.ListN.{length}
use Rattle.toward_list.specs.Leasts.{Leasts}
use Rattle.toward_list.proofs.leasts.least_of_arcs.Given as goal

abbrev pub invariant-loop-a : goal.invariant-loop-a
invariant-loop-a l = (l.a ≤ l.a-end) × Leasts l.file l.l l.a l.least × (l.a-end ≤ length l.least)
