-- What a call for a trip answers: with lists of any lengths, and with a fresh list of arrivals and a list of
-- roads that have room for every network, as the tablet and the run sheet ask.
use Rattle.std.specs.Prelude.{List, ℕ, Result}
use Rattle.theory_paths.specs.Graph.{all}
use Rattle.network.specs.{Limits.most_nodes, Limits.most_roads, Decode.decode, Town.graph_of}
use Rattle.search_path.specs.Answer.{path_of, searched}
use Rattle.trip_call.specs.Trip.{trip_answer}
use Rattle.trip_plain.specs.Plain.{plain_begin}
use Rattle.file_refusals.specs.declared.Refusal.{Refusal}
use Rattle.search_path.specs.declared.answer.Arrival.{Arrival}
use Rattle.trip.specs.Flagged.{flagged_begin, flagged_arcs}

-- the plain trip with room for so many arrivals and roads, with fresh lists, and its path
abbrev pub plain_answer : List ℕ → ℕ → ℕ → ℕ → ℕ → ℕ → Result Arrival Refusal
plain_answer network from to departure room free =
    trip_answer (plain_begin network from to departure room)
    (searched (graph_of (decode network)) all from to departure free)

abbrev pub plain_call : List ℕ → ℕ → ℕ → ℕ → Result Arrival Refusal
plain_call network from to departure = plain_answer network from to departure most_nodes most_roads

abbrev pub plain_path : List ℕ → ℕ → ℕ → ℕ → List ℕ
plain_path network from to departure = path_of (graph_of (decode network)) all from to departure

-- the flagged trip
abbrev pub flagged_answer : List ℕ → List ℕ → ℕ → ℕ → ℕ → ℕ → ℕ → Result Arrival Refusal
flagged_answer network plan from to departure room free =
    trip_answer (flagged_begin network plan from to departure room)
    (searched (graph_of (decode network)) (flagged_arcs network plan to) from to departure free)

abbrev pub flagged_call : List ℕ → List ℕ → ℕ → ℕ → ℕ → Result Arrival Refusal
flagged_call network plan from to departure = flagged_answer network plan from to departure most_nodes most_roads

abbrev pub flagged_path : List ℕ → List ℕ → ℕ → ℕ → ℕ → List ℕ
flagged_path network plan from to departure =
    path_of (graph_of (decode network)) (flagged_arcs network plan to) from to departure
