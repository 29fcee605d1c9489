-- The plain trip: validation, the refusals 25 to 27, and a search over all arcs.
use mathlib.Core.{Path.◌≡◌, Path.sym, Path.◌∙◌, Path.ap, List.List}
use Rattle.std.specs.Prelude.{ℕ, ◌≤◌, ◌<◌, Result, Ok}
use Rattle.std.proofs.Common.{arith}
use lib.{ListN.length, ListN.replicate, ListN.length-replicate, ListN.get_or-replicate, Dec.eqb}
use Rattle.theory_paths.specs.Graph.{all}
use Rattle.network.specs.declared.header.Header.{Header}
use Rattle.network.specs.{Limits.most_arcs, Network.arcs, Decode.decode, Town.graph_of, Validate.validated}
use Rattle.network.specs.Valid.{ValidFile}
use Rattle.network.proofs.Valid.{valid_exactly}
use Rattle.search_labels.specs.Ready.{permit_of}
use Rattle.trip_call.specs.Trip.{asked, and_then, TripCall}
use Rattle.trip_call.specs.Stage.{Asked, asked_passed, then_passed, stage_opened}
use Rattle.file_refusals.specs.declared.Refusal.{Refusal}
use Rattle.search_path.specs.declared.answer.Arrival.{Arrival}
use Rattle.trip_call.specs.Drive.{call_permit, drive_arcs, drive_period}

-- what comes before the search: 1 to 10 and 37, then 25 to 27
abbrev pub plain_begin : List ℕ → ℕ → ℕ → ℕ → ℕ → Result Header Refusal
plain_begin network from to departure room = and_then (validated network) (λ h. asked h from to departure room)

-- THE PLAIN TRIP: the lists at entry and at exit, and the answer
abbrev pub PlainTrip : List ℕ → ℕ → ℕ → ℕ → List ℕ → List ℕ → List ℕ → List ℕ → Result Arrival Refusal → Type 0
PlainTrip network from to departure arrivals₀ arrivals₁ roads₀ roads₁ a =
    TripCall (plain_begin network from to departure (length arrivals₀))
    (graph_of (decode network)) all from to departure
    arrivals₀ arrivals₁ roads₀ roads₁ a

-- what it has shown where nothing before its search is refused
pub record Begun (network : List ℕ) (h : Header) (from to departure room : ℕ) : Type 0 where
  pub valid : ValidFile network h
  pub asks : Asked h from to departure room

pub begun : (network : List ℕ) (h : Header) (from to departure room : ℕ)
    → plain_begin network from to departure room ≡ Ok h
    → Begun network h from to departure room
begun network h from to departure room e =
    let (k, v, f) = then_passed (validated network) (λ h. asked h from to departure room) h e in
    let (a, q) = asked_passed k h from to departure room f in
    record { valid = (valid_exactly network h).0 (v ∙ ap (λ (x : Header). Ok x) q); asks = a }

-- FOR CODE that has begun a trip: b is what came before its search. A mask of ones permits all arcs.
module _ (network : List ℕ) (from to departure room : ℕ) (b : Result Header Refusal)
    (e : b ≡ plain_begin network from to departure room)
    (h : Header) (f : b ≡ Ok h) where
  pub plain_asks : Asked h from to departure room
  plain_asks = (begun network h from to departure room (sym e ∙ f)).asks

  pub plain_valid : ValidFile network h
  plain_valid = (begun network h from to departure room (sym e ∙ f)).valid

  pub plain_arcs : h.arcs ≤ length {A = ℕ} (replicate most_arcs 1)
  plain_arcs = rw length-replicate plain_valid.within.arcs_most

  ones : (a : ℕ) → a < arcs (decode network) → permit_of (replicate most_arcs 1) a ≡ all a
  ones a l =
      ap (λ (m : ℕ). eqb m 1)
      (get_or-replicate most_arcs a 1 0 (omega (arith, drive_arcs plain_valid, plain_valid.within.arcs_most)))

  some : 0 < (decode network).period
  some = omega (arith, drive_period plain_valid, plain_valid.within.period_some)

  pub plain_driven : (arrivals₀ arrivals₁ roads₀ roads₁ : List ℕ) (a : Result Arrival Refusal)
      → TripCall (Ok h) (graph_of (decode network))
      (permit_of (replicate most_arcs 1)) from to departure arrivals₀ arrivals₁ roads₀ roads₁ a
      → TripCall (plain_begin network from to departure room)
      (graph_of (decode network)) all from to departure arrivals₀ arrivals₁ roads₀ roads₁ a
  plain_driven arrivals₀ arrivals₁ roads₀ roads₁ a c =
      stage_opened b _ e (graph_of (decode network)) all from to departure h f
      arrivals₀ arrivals₁ roads₀ roads₁ a h
      (call_permit (graph_of (decode network)) (permit_of (replicate most_arcs 1)) all some ones
      from to departure c)

-- for `search plains` where the trip answers
pub ruleset plains = (plain_valid, plain_asks, plain_arcs, plain_driven)
