-- The stages before a search: the network's validation, and the refusals 25 to 27. What they have shown where
-- they are passed (`Asked`), and the laws for code that goes on from one to the next.
use mathlib.Core.{Path.◌≡◌, Path.refl, Path.sym, Path.◌∙◌, List.List}
use Rattle.file_refusals.specs.Apart.{same_value, not_both}
use Rattle.file_refusals.specs.Refusal.{refusal, refused}
use Rattle.std.specs.Prelude.{ℕ, ◌≤◌, ◌<◌, leb, ltb, Result, Ok, Err}
use Rattle.std.proofs.Common.{arith, leb-false, ltb-false, le-ltb}
use Rattle.std.proofs.lemmas.Bool.{lt-leb}
use Rattle.theory_loops.specs.Pick.{passed_by_lem}
use Rattle.theory_paths.specs.Graph.{Graph, Permit}
use Rattle.file_refusals.specs.declared.Refusal.{Refusal}
use Rattle.network.specs.declared.header.Header.{Header}
use Rattle.network.specs.{Validate.validated, Valid.ValidFile}
use Rattle.network.proofs.Valid.{valid_exactly}
use Rattle.search_path.specs.declared.answer.Arrival.{Arrival}
use Rattle.trip_call.specs.Trip.{asked, and_then, TripCall}

-- what the call has shown where nothing before the search is refused
pub record Asked (h : Header) (from to departure room : ℕ) : Type 0 where
  pub from_node : from < h.nodes
  pub to_node : to < h.nodes
  pub early : departure < h.period
  pub long : h.nodes ≤ room

pub asked_passed : (k h : Header) (from to departure room : ℕ) → asked k from to departure room ≡ Ok h
    → Asked h from to departure room × (k ≡ h)
unfolding asked
asked_passed k h from to departure room e =
    let (a, e₁) = passed_by_lem (leb k.nodes from) (refused 25 from) _ (Ok h) (not_both (refusal 25 from) h) e in
    let (b, e₂) = passed_by_lem (leb k.nodes to) (refused 25 to) _ (Ok h) (not_both (refusal 25 to) h) e₁ in
    let (c, e₃) = passed_by_lem (leb k.period departure) (refused 26 0) _ (Ok h) (not_both (refusal 26 0) h) e₂ in
    let (d, e₄) =
    passed_by_lem (ltb room k.nodes) (refused 27 0) (Ok k) (Ok h) (not_both (refusal 27 0) h) e₃ in
    let q : k ≡ h = same_value k h e₄ in
    let r : Asked k from to departure room =
    record {
      from_node = leb-false _ _ a;
      to_node = leb-false _ _ b;
      early = leb-false _ _ c;
      long = ltb-false _ _ d;
    } in
    (rw q at r, q)

-- a call that asks nothing wrong is not refused before its search
pub asked_opens : (h : Header) (from to departure room : ℕ) → Asked h from to departure room
    → asked h from to departure room ≡ Ok h
unfolding asked
asked_opens h from to departure room q =
    let a = lt-leb h.nodes from q.from_node in
    let b = lt-leb h.nodes to q.to_node in
    rw (a, b, lt-leb h.period departure q.early, le-ltb room h.nodes q.long)

-- a ladder after another is passed where both are
pub then_passed : (o : Result Header Refusal) (next : Header → Result Header Refusal) (h : Header) → and_then o next ≡ Ok h
    → (k : Header) × (o ≡ Ok k) × (next k ≡ Ok h)
then_passed (Err r) next h e = let z : ◌≡◌ {A = ℕ} 0 1 = cc in absurd (omega arith)
then_passed (Ok k) next h e = (k, refl, e)

-- FOR CODE: v is what a stage answered, W the definition that it meets. Where it refuses, the call is over,
-- and both lists are as they were; else the call is what goes on from it.
module _ (v W : Result Header Refusal) (e : v ≡ W) (g : Graph) (p : Permit) (s t x : ℕ) where
  module _ (r : Refusal) (f : v ≡ Err r) (arrivals roads : List ℕ) (a : Result Arrival Refusal)
      (k : a ≡ Err r) where
    pub stage_refused : TripCall W g p s t x arrivals arrivals roads roads a
    stage_refused = record { answer = rw (← e, f) k; arrivals = rw (← e, f); roads = rw k }

    pub network_refused : (next : Header → Result Header Refusal)
        → TripCall (and_then W next) g p s t x arrivals arrivals roads roads a
    network_refused next = record { answer = rw (← e, f) k; arrivals = rw (← e, f); roads = rw k }

  module _ (h : Header) (f : v ≡ Ok h) (arrivals₀ arrivals₁ roads₀ roads₁ : List ℕ) (a : Result Arrival Refusal) where
    pub stage_opened : (k : Header) → TripCall (Ok k) g p s t x arrivals₀ arrivals₁ roads₀ roads₁ a
        → TripCall W g p s t x arrivals₀ arrivals₁ roads₀ roads₁ a
    stage_opened k c =
        record { answer = rw (← e, f) c.answer; arrivals = rw (← e, f) c.arrivals; roads = c.roads }

    pub network_opened : (next : Header → Result Header Refusal)
        → TripCall (next h) g p s t x arrivals₀ arrivals₁ roads₀ roads₁ a
        → TripCall (and_then W next) g p s t x arrivals₀ arrivals₁ roads₀ roads₁ a
    network_opened next c = rw (← e, f) c

-- the calls that the search needs, from the stage 25 to 27
pub stage_asks : (b : Result Header Refusal) (h k : Header) (from to departure room : ℕ)
    → b ≡ asked h from to departure room → b ≡ Ok k
    → Asked h from to departure room
stage_asks b h k from to departure room e f =
    let (a, q) = asked_passed h k from to departure room (sym e ∙ f) in rw q a

-- what is valid by then
pub stage_valid : (file : List ℕ) (v : Result Header Refusal) (h : Header) → v ≡ validated file → v ≡ Ok h
    → ValidFile file h
stage_valid file v h e f = (valid_exactly file h).0 (sym e ∙ f)

-- for `search stages`
pub ruleset stages = (stage_refused, stage_opened, stage_asks, network_refused, network_opened, stage_valid)
