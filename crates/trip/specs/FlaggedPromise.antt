-- The flagged trip's promises, for any bytes, numbers and lists that meet its contract, a sentence of
-- document 01 each: over the arcs with the flag of the target's cell, whatever the plan says. And demand 3:
-- under a plan that the check has accepted, whoever made it, the trip is as good as any way over any roads
-- with any waits (`accepted_trip`; `accepted_call` for the call with fresh lists).
use mathlib.Core.{Path.◌≡◌, Path.refl, Logic.◌↔◌, Logic.◌⊎◌, List.List}
use Rattle.std.specs.Prelude.{ℕ, ◌≤◌, ◌<◌, length, take, Result, Ok}
use Rattle.std.proofs.Common.{arith}
use Rattle.theory_paths.specs.{Graph.Graph, Graph.Permit, Graph.all, Graph.Reachable, Chosen.IsChosen}
use Rattle.theory_paths.proofs.Drive.{path_all}
use Rattle.network.specs.declared.header.Header.{Header}
use Rattle.network.specs.{Limits.most_nodes, Limits.most_roads, Network.nodes, Decode.decode}
use Rattle.network.specs.{Town.graph_of, Town.partition_of, Valid.ValidFile}
use Rattle.network.proofs.Valid.{valid_exactly}
use Rattle.plan.specs.declared.header.PlanHeader.{PlanHeader}
use Rattle.plan.specs.{PlanDecode.decode_plan, PlanValid.ValidPlan, PlanValid.plan_exactly}
use Rattle.plan_check.specs.CheckPlan.{checking, AcceptedPlan, accepted_plan, accepted_lawful}
use Rattle.plan_check.specs.Promise.{FlaggedTrips, flagged_trips}
use Rattle.search_path.specs.{Says.trip_says, Shows.ShowsBefore, Shows.ShowsAll}
use Rattle.search_path.specs.declared.answer.{Arrival.Arrival}
use Rattle.trip_call.specs.{Drive.drive_nodes, Drive.drive_period, Stage.Asked, Stage.asked_opens}
use Rattle.trip.specs.Flagged.{flagged_begin, flagged_arcs, FlaggedTrip}
use Rattle.trip.specs.{Calls.flagged_call, Calls.flagged_path, Numbers.flagged_begins}
use Rattle.trip.specs.Promise.{BestTrip, AsGoodAsAny, Passed, BeforeSearch, Begins, listed}
use Rattle.file_refusals.specs.declared.Refusal.{Refusal}
use Rattle.trip.specs.Promise as trip

-- nothing before the search is refused of a network that validates, a well-formed plan, and a call that asks
-- nothing wrong
pub flagged_passes : {network plan : List ℕ} {from to departure room : ℕ} {h : Header} {k : PlanHeader}
    (v : ValidFile network h)
    → ValidPlan h (decode network) plan k → Asked h from to departure room
    → Passed (flagged_begin network plan from to departure room)
flagged_passes {network} {plan} {from} {to} {departure} {room} {h} {k} v m q =
    (h, rw ((valid_exactly network h).1 v, (plan_exactly v plan k).1 m, asked_opens h from to departure room q))

-- FOR ANY PLAN, well-formed or not, accepted or not
module _ (network plan : List ℕ) {from to departure : ℕ} {arrivals₀ arrivals₁ roads₀ roads₁ : List ℕ}
    {a : Result Arrival Refusal}
    (c : FlaggedTrip network plan from to departure arrivals₀ arrivals₁ roads₀ roads₁ a) where
  abbrev g : Graph
  g = graph_of (decode network)

  abbrev flagged : Permit
  flagged = flagged_arcs network plan to

  abbrev path : List ℕ
  path = flagged_path network plan from to departure

  abbrev before : Result Header Refusal
  before = flagged_begin network plan from to departure (length arrivals₀)

  begins : Begins before g from to departure (length arrivals₀)
  begins = flagged_begins network from to departure (length arrivals₀) plan

  -- 28 exactly where nothing before it is refused and there is no way over flagged roads
  pub flagged_no_way : ((trip_says a).number ≡ 28) ↔ (Passed before × (¬ Reachable g flagged from to))
  flagged_no_way = trip.trip_no_way begins flagged (length roads₀) c.answer

  -- 29 exactly where nothing before it is refused, there is a way, and the list of roads is shorter than the
  -- chosen one
  pub flagged_short : ((trip_says a).number ≡ 29) ↔
      (Passed before × Reachable g flagged from to × (length roads₀ < length path))
  flagged_short = trip.trip_short begins flagged (length roads₀) c.answer

  -- a way, and a list that is long enough for the chosen one, give an arrival
  pub flagged_reaches : Passed before → Reachable g flagged from to → length path ≤ length roads₀
      → (r : Arrival) × (a ≡ Ok r)
  flagged_reaches = trip.trip_reaches begins flagged (length roads₀) c.answer

  -- an arrival is the earliest over flagged roads, with whatever waits, and the listed roads drive there
  pub flagged_arrives : (r : Arrival) → a ≡ Ok r
      → BestTrip g flagged from departure to (take r.count roads₁) r
  flagged_arrives = trip.trip_arrives begins c

  -- they are the chosen way over flagged roads
  pub flagged_chosen : (r : Arrival) → a ≡ Ok r
      → IsChosen g flagged from departure to (take r.count roads₁)
  flagged_chosen = trip.trip_chosen begins c

  -- from a place to itself the answer is the departure, with no road
  pub flagged_home : Passed before → from ≡ to → a ≡ Ok (record { tick = departure; count = 0 })
  flagged_home = trip.trip_home begins flagged (length roads₀) c.answer

  -- on arrival and on 29 the first N arrivals hold the least arrival where it is before the target's or the
  -- place is the target, else never
  pub flagged_shows : ((trip_says a).number ≡ 0) ⊎ ((trip_says a).number ≡ 29)
      → ShowsBefore g flagged from departure to arrivals₀ arrivals₁
  flagged_shows = trip.trip_shows begins c

  -- on 28 the first N hold the least arrival of every reachable place and never for the others
  pub flagged_shows_all : (trip_says a).number ≡ 28 → ShowsAll g flagged from departure arrivals₀ arrivals₁
  flagged_shows_all = trip.trip_shows_all begins c

  -- up to 27, and by 37, both lists are untouched; the list of roads changes only on arrival
  pub flagged_untouched : BeforeSearch (trip_says a).number → arrivals₁ ≡ arrivals₀
  flagged_untouched = trip.trip_untouched begins c

  pub flagged_roads_kept : 1 ≤ (trip_says a).number → roads₁ ≡ roads₀
  flagged_roads_kept = trip.trip_roads_kept begins c

-- UNDER AN ACCEPTED PLAN, flagged roads are as good as all roads
module _ {network plan : List ℕ} (c : AcceptedPlan network plan) where
  flags : FlaggedTrips (partition_of (decode network)) (decode_plan plan)
  flags = flagged_trips (decode_plan plan) (accepted_lawful c) c.tests

  best_all : {from to departure : ℕ} {path : List ℕ} {r : Arrival}
      → BestTrip (graph_of (decode network)) (flagged_arcs network plan to) from departure to path r
      → BestTrip (graph_of (decode network)) all from departure to path r
  best_all {from} {to} {departure} {r = r} k = record {
    leads = path_all k.leads;
    counted = k.counted;
    drives = k.drives;
    earliest = (flags.earliest from departure to r.tick).0 k.earliest;
    waits = λ w ds i. flags.no_earlier from departure to r.tick k.earliest w ds i;
    early = k.early;
  }

  good_all : {from to departure : ℕ} {path : List ℕ} {a : Result Arrival Refusal}
      → AsGoodAsAny (graph_of (decode network)) (flagged_arcs network plan to) from departure to path a
      → AsGoodAsAny (graph_of (decode network)) all from departure to path a
  good_all {from} {to} k = record {
    no_way = (
      λ n q. k.no_way.0 n ((flags.reachable from to).1 q),
      λ u. k.no_way.1 (λ q. u ((flags.reachable from to).0 q)),
    );
    arrives = λ q. k.arrives ((flags.reachable from to).1 q);
    best = λ r q. best_all (k.best r q);
  }

  passes : {from to departure : ℕ} (room : ℕ) → from < nodes (decode network) → to < nodes (decode network)
      → departure < (decode network).period
      → nodes (decode network) ≤ room → Passed (flagged_begin network plan from to departure room)
  passes room l m o k =
      let v = c.valid in
      flagged_passes v c.valid_plan_lem (record {
        from_node = omega (arith, drive_nodes v);
        to_node = omega (arith, drive_nodes v);
        early = omega (arith, drive_period v);
        long = omega (arith, drive_nodes v);
      })

-- DEMAND 3. Whatever network and plan the check has accepted together, whoever made the plan: at every
-- departure below the period, from every node to every node.
module _ (network plan : List ℕ) {from to departure : ℕ} {arrivals₀ arrivals₁ roads₀ roads₁ : List ℕ}
    {a : Result Arrival Refusal}
    (c : FlaggedTrip network plan from to departure arrivals₀ arrivals₁ roads₀ roads₁ a)
    (accepted : checking network plan ≡ Ok tt) where
  -- 28 exactly where there is no way over any roads
  pub accepted_no_way : from < nodes (decode network) → to < nodes (decode network)
      → departure < (decode network).period
      → nodes (decode network) ≤ length arrivals₀
      → ((trip_says a).number ≡ 28) ↔ (¬ Reachable (graph_of (decode network)) all from to)
  accepted_no_way l m o k =
      let d = accepted_plan network plan accepted in
      let n = flagged_no_way network plan c in (
        λ e q. (n.0 e).1 (((flags d).reachable from to).1 q),
        λ u. n.1 (passes d (length arrivals₀) l m o k, λ q. u (((flags d).reachable from to).0 q)),
      )

  -- an arrival is the earliest over all ways, with whatever waits, and the listed roads drive there
  pub accepted_arrives : (r : Arrival) → a ≡ Ok r
      → BestTrip (graph_of (decode network)) all from departure to (take r.count roads₁) r
  accepted_arrives r q = best_all (accepted_plan network plan accepted) (flagged_arrives network plan c r q)

  -- with lists that are long enough
  pub accepted_trip : from < nodes (decode network) → to < nodes (decode network)
      → departure < (decode network).period
      → nodes (decode network) ≤ length arrivals₀
      → (Reachable (graph_of (decode network)) all from to → length
      (flagged_path network plan from to departure) ≤ length roads₀)
      → AsGoodAsAny (graph_of (decode network)) all from departure to (listed a roads₁) a
  accepted_trip l m o k n =
      let d = accepted_plan network plan accepted in
      good_all d
      (trip.lists_good (flagged_begins network from to departure (length arrivals₀) plan) c
      (passes d (length arrivals₀) l m o k)
      (λ q. n (((flags d).reachable from to).0 q)))

-- of the call with fresh lists
pub accepted_call : (network plan : List ℕ) (from to departure : ℕ) → checking network plan ≡ Ok tt
    → from < nodes (decode network) → to < nodes (decode network) → departure < (decode network).period
    → AsGoodAsAny (graph_of (decode network)) all from departure to
    (flagged_path network plan from to departure) (flagged_call network plan from to departure)
accepted_call network plan from to departure accepted l m o =
    let d = accepted_plan network plan accepted in
    let v = d.valid in
    good_all d
    (trip.call_good (flagged_begins network from to departure most_nodes plan)
    (flagged_arcs network plan to) most_roads refl
    (passes d most_nodes l m o (omega (arith, drive_nodes v, v.within.nodes_most))) (omega arith))
