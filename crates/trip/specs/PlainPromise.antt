-- The plain trip's promises, for any bytes, numbers and lists that meet its contract, a sentence of document
-- 01 each: demand 2 for trips. `plain_call_lem` says it of the call with fresh lists, which has room for every
-- network.
use mathlib.Core.{Path.◌≡◌, Path.refl, Logic.◌↔◌, Logic.◌⊎◌, List.List}
use Rattle.std.specs.Prelude.{ℕ, ◌≤◌, ◌<◌, length, take, Result, Ok}
use Rattle.std.proofs.Common.{arith}
use Rattle.theory_paths.specs.{Graph.Graph, Graph.all, Graph.Reachable, Chosen.IsChosen}
use Rattle.network.specs.declared.header.Header.{Header}
use Rattle.network.specs.{Limits.most_nodes, Limits.most_roads, Network.nodes, Decode.decode, Town.graph_of}
use Rattle.network.specs.{Validate.validated}
use Rattle.network.proofs.Valid.{valid_exactly}
use Rattle.search_path.specs.{Says.trip_says, Shows.ShowsBefore, Shows.ShowsAll}
use Rattle.search_path.specs.declared.answer.{Arrival.Arrival}
use Rattle.trip_call.specs.{Drive.drive_nodes, Drive.drive_period, Stage.asked_opens}
use Rattle.trip_plain.specs.Plain.{plain_begin, PlainTrip}
use Rattle.trip.specs.{Calls.plain_call, Calls.plain_path, Numbers.plain_begins}
use Rattle.trip.specs.Promise.{BestTrip, AsGoodAsAny, Passed, BeforeSearch, Begins, listed}
use Rattle.file_refusals.specs.declared.Refusal.{Refusal}
use Rattle.trip.specs.Promise as trip

-- nothing before the search is refused of a network that validates, two of its places, a tick of its day and
-- a list of arrivals with room
pub plain_passes : (network : List ℕ) (from to departure room : ℕ) {h : Header} → validated network ≡ Ok h
    → from < nodes (decode network) → to < nodes (decode network) → departure < (decode network).period
    → nodes (decode network) ≤ room
    → Passed (plain_begin network from to departure room)
plain_passes network from to departure room {h} e l m o k =
    let v = (valid_exactly network h).0 e in (
      h,
      rw (
        e,
        asked_opens h from to departure room (record {
          from_node = omega (arith, drive_nodes v);
          to_node = omega (arith, drive_nodes v);
          early = omega (arith, drive_period v);
          long = omega (arith, drive_nodes v);
        }),
      ),
    )

module _ (network : List ℕ) {from to departure : ℕ} {arrivals₀ arrivals₁ roads₀ roads₁ : List ℕ} {a : Result Arrival Refusal}
    (c : PlainTrip network from to departure arrivals₀ arrivals₁ roads₀ roads₁ a) where
  abbrev g : Graph
  g = graph_of (decode network)

  abbrev path : List ℕ
  path = plain_path network from to departure

  abbrev before : Result Header Refusal
  before = plain_begin network from to departure (length arrivals₀)

  begins : Begins before g from to departure (length arrivals₀)
  begins = plain_begins network from to departure (length arrivals₀)

  -- 28 exactly where nothing before it is refused and there is no way
  pub plain_no_way : ((trip_says a).number ≡ 28) ↔ (Passed before × (¬ Reachable g all from to))
  plain_no_way = trip.trip_no_way begins all (length roads₀) c.answer

  -- 29 exactly where nothing before it is refused, there is a way, and the list of roads is shorter than the
  -- chosen one
  pub plain_short : ((trip_says a).number ≡ 29) ↔
      (Passed before × Reachable g all from to × (length roads₀ < length path))
  plain_short = trip.trip_short begins all (length roads₀) c.answer

  -- a way, and a list that is long enough for the chosen one, give an arrival
  pub plain_reaches : Passed before → Reachable g all from to → length path ≤ length roads₀
      → (r : Arrival) × (a ≡ Ok r)
  plain_reaches = trip.trip_reaches begins all (length roads₀) c.answer

  -- an arrival is the earliest over all ways, with whatever waits, and the listed roads drive there
  pub plain_arrives : (r : Arrival) → a ≡ Ok r
      → BestTrip g all from departure to (take r.count roads₁) r
  plain_arrives = trip.trip_arrives begins c

  -- they are the chosen way: in time at each of their places, of the fewest, the lowest at each step back
  pub plain_chosen : (r : Arrival) → a ≡ Ok r
      → IsChosen g all from departure to (take r.count roads₁)
  plain_chosen = trip.trip_chosen begins c

  -- from a place to itself the answer is the departure, with no road
  pub plain_home : Passed before → from ≡ to → a ≡ Ok (record { tick = departure; count = 0 })
  plain_home = trip.trip_home begins all (length roads₀) c.answer

  -- on arrival and on 29 the first N arrivals hold the least arrival where it is before the target's or the
  -- place is the target, else never
  pub plain_shows : ((trip_says a).number ≡ 0) ⊎ ((trip_says a).number ≡ 29)
      → ShowsBefore g all from departure to arrivals₀ arrivals₁
  plain_shows = trip.trip_shows begins c

  -- on 28 the first N hold the least arrival of every reachable place and never for the others
  pub plain_shows_all : (trip_says a).number ≡ 28 → ShowsAll g all from departure arrivals₀ arrivals₁
  plain_shows_all = trip.trip_shows_all begins c

  -- up to 27, and by 37, both lists are untouched; the list of roads changes only on arrival
  pub plain_untouched : BeforeSearch (trip_says a).number → arrivals₁ ≡ arrivals₀
  plain_untouched = trip.trip_untouched begins c

  pub plain_roads_kept : 1 ≤ (trip_says a).number → roads₁ ≡ roads₀
  plain_roads_kept = trip.trip_roads_kept begins c

  -- DEMAND 2 with lists that are long enough
  pub plain_trip_lem : {h : Header} → validated network ≡ Ok h → from < nodes (decode network)
      → to < nodes (decode network) → departure < (decode network).period
      → nodes (decode network) ≤ length arrivals₀ → (Reachable g all from to → length path ≤ length roads₀)
      → AsGoodAsAny g all from departure to (listed a roads₁) a
  plain_trip_lem e l m o k = trip.lists_good begins c
      (plain_passes network from to departure (length arrivals₀) e l m o k)

-- DEMAND 2 of the call with fresh lists, for any network that validates, any two places and any tick of the
-- day
pub plain_call_lem : (network : List ℕ) (from to departure : ℕ) {h : Header} → validated network ≡ Ok h
    → from < nodes (decode network) → to < nodes (decode network) → departure < (decode network).period
    → AsGoodAsAny (graph_of (decode network)) all from departure to (plain_path network from to departure)
    (plain_call network from to departure)
plain_call_lem network from to departure {h} e l m o =
    let v = (valid_exactly network h).0 e in
    trip.call_good (plain_begins network from to departure most_nodes) all most_roads refl
    (plain_passes network from to departure most_nodes e l m o
    (omega (arith, drive_nodes v, v.within.nodes_most)))
    (omega arith)
