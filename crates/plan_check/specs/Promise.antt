-- What acceptance means for a trip: over the arcs with the flag of the target's cell the earliest arrival is
-- that over all arcs, there is a path exactly where there is one over all arcs, and no path over any arcs,
-- with any waits, ends before that arrival. Of a graph with cells (`flagged_trips`), and of two files that
-- the check has accepted (`accepted-trips`).
use mathlib.Core.{Path.◌≡◌, Logic.◌↔◌, List.List}
use Rattle.std.specs.Prelude.{ℕ, ◌≤◌, Ok}
use Rattle.theory_paths.specs.Graph.{Lawful, all, IsPath, waited, EarliestArrival, Reachable}
use Rattle.theory_paths.specs.{Partition.Partition}
use Rattle.theory_paths.proofs.Drive.{earliest_waiting}
use Rattle.theory_paths.specs.Flags.{EnoughFlags}
use Rattle.theory_paths.proofs.Flags.{arc_flags, arc_flags_reach}
use Rattle.plan.specs.{Plan.Plan, Plan.flag, Plan.towards}
use Rattle.plan_check.specs.{Check.checked, Exact.check_exact}

-- from s at tick x to t
pub record FlaggedTrips (G : Partition) (p : Plan) : Type 0 where
  pub earliest : (s x t b : ℕ)
      → EarliestArrival G.graph (towards G p t) s x t b ↔ EarliestArrival G.graph all s x t b
  pub reachable : (s t : ℕ) → Reachable G.graph (towards G p t) s t ↔ Reachable G.graph all s t
  pub no_earlier : (s x t b : ℕ) → EarliestArrival G.graph (towards G p t) s x t b
      → (w waits : List ℕ) → IsPath G.graph all s t w → b ≤ waited G.graph w waits x

pub flagged_trips : {G : Partition} (p : Plan) → Lawful G.graph → checked G p ≡ Ok tt → FlaggedTrips G p
flagged_trips {G} p ok e =
    let enough : EnoughFlags G.graph G.cell (flag p) = ((check_exact p ok).0 e).1 in
    record {
      earliest = λ s x t b. arc_flags ok enough;
      reachable = λ s t. arc_flags_reach ok enough;
      no_earlier = λ s x t b a w waits i. earliest_waiting ok waits ((arc_flags ok enough).0 a) i;
    }
