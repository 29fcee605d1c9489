-- Which numbers a trip refuses with. Before the search: 1 to 10 with 37 for the network, 11 to 19 for the
-- plan, 25 to 27 for the call, and not 27 where the list of arrivals has room for the nodes of every network.
-- So what comes before a search is as `Promise` needs it (`plain_begins`, `flagged_begins`); a refusal of the
-- plain trip is 1 to 10, 37 or 25 to 29, one of the flagged trip 1 to 19, 37 or 25 to 29, and the calls with
-- fresh lists never say 27 or 29.
use mathlib.Core.{Path.◌≡◌, Path.refl, Path.sym, Logic.◌⊎◌, Logic.inl, Logic.inr, Logic.⊎_elim}
use mathlib.Core.{Bool.cond, List.List}
use Rattle.file_refusals.specs.Apart.{same_number}
use Rattle.std.specs.Prelude.{ℕ, ◌≤◌, leb, ltb, Result, Ok, Err}
use Rattle.std.proofs.Common.{arith, lit≤, le-ltb}
use Rattle.theory_loops.specs.Pick.{cond_holds}
use Rattle.theory_paths.specs.Graph.{Graph, Permit, all}
use Rattle.file_refusals.specs.declared.Refusal.{Refusal}
use Rattle.file_refusals.specs.{Refusal.refusal, Numbered.Between, Numbered.Numbered, Numbered.numbered}
use Rattle.network.specs.declared.header.Header.{Header}
use Rattle.network.specs.{Limits.most_nodes, Limits.most_roads, Decode.decode, Town.graph_of, Validate.validated}
use Rattle.network.specs.{Numbers.NetworkNumber, Numbers.validated_numbers}
use Rattle.network.proofs.Valid.{valid_exactly}
use Rattle.plan.specs.{PlanValidate.planned, Numbers.planned_numbers}
use Rattle.search_path.specs.Answer.{searched}
use Rattle.trip_call.specs.{Trip.asked, Trip.and_then, Trip.trip_answer, Drive.drive_nodes, Drive.valid_leaving}
use Rattle.trip_plain.specs.Plain.{plain_begin, Begun, begun}
use Rattle.trip.specs.Flagged.{planned_then, flagged_begin, flagged_arcs, flagged_begun}
use Rattle.trip.specs.Calls.{plain_answer, plain_call, flagged_answer, flagged_call}
use Rattle.plan.specs.declared.header.PlanHeader.{PlanHeader}
use Rattle.trip.specs.Promise.{BeforeSearch, Leaves, Begins, trip_refused, never_short}

-- of a network file, or of a plan file too
abbrev pub FlaggedNumber : ℕ → Type 0
FlaggedNumber number = Between 1 19 number ⊎ (number ≡ 37)

-- BEFORE THE SEARCH, the highest number is 27; it is 26 where the list of arrivals has room
module _ (high : ℕ) (most : 26 ≤ high) where
  abbrev Asks : Result Header Refusal → Type 0
  Asks = Numbered (Between 25 high)

  asks : (number place : ℕ) → 25 ≤ number → number ≤ high → Asks (Err (refusal number place))
  asks number place l k = numbered (Between 25 high) (refusal number place) (l, k)

  opened_asks : (h : Header) → Asks (Ok h)
  opened_asks h r e = let z : ◌≡◌ {A = ℕ} 0 1 = cc in absurd (omega arith)

  asked_numbers : (h : Header) (from to departure room : ℕ) → (h.nodes ≤ room) ⊎ (27 ≤ high)
      → Asks (asked h from to departure room)
  unfolding asked
  asked_numbers h from to departure room c =
      cond_holds Asks (leb h.nodes from) _ _ (asks 25 from (omega arith) (omega arith))
      (cond_holds Asks (leb h.nodes to) _ _ (asks 25 to (omega arith) (omega arith))
      (cond_holds Asks (leb h.period departure) _ _ (asks 26 0 (omega arith) (omega arith)) (last c)))
    where
      last : (h.nodes ≤ room) ⊎ (27 ≤ high)
          → Asks (cond (ltb room h.nodes) (Err (refusal 27 0)) (Ok h))
      last (inl l) = rw (le-ltb room h.nodes l) (opened_asks h)
      last (inr l) = cond_holds Asks (ltb room h.nodes) _ _ (asks 27 0 (omega arith) l) (opened_asks h)

  -- a list with an arrival for each node of the largest network has room for those of every network
  module _ (network : List ℕ) (from to departure room : ℕ) (c : (most_nodes ≤ room) ⊎ (27 ≤ high)) where
    roomy : (h : Header) → validated network ≡ Ok h → (h.nodes ≤ room) ⊎ (27 ≤ high)
    roomy h e =
        ⊎_elim (λ l. inl (omega (arith, ((valid_exactly network h).0 e).within.nodes_most))) (λ l. inr l) c

    plain_before : (r : Refusal) → plain_begin network from to departure room ≡ Err r
        → NetworkNumber r.number ⊎ Between 25 high r.number
    plain_before = go (validated network) refl (validated_numbers network)
      where
        go : (o : Result Header Refusal) → validated network ≡ o → Numbered NetworkNumber o → (r : Refusal)
            → and_then o (λ h. asked h from to departure room) ≡ Err r
            → NetworkNumber r.number ⊎ Between 25 high r.number
        go (Err q) f n r e = inl (n r e)
        go (Ok h) f n r e = inr (asked_numbers h from to departure room (roomy h f) r e)

    flagged_before : (plan : List ℕ) (r : Refusal)
        → flagged_begin network plan from to departure room ≡ Err r
        → FlaggedNumber r.number ⊎ Between 25 high r.number
    flagged_before plan = go (validated network) refl (validated_numbers network)
      where
        by : (h : Header) → validated network ≡ Ok h → (m : Result PlanHeader Refusal)
            → Numbered (Between 11 19) m → (r : Refusal)
            → planned_then m (asked h from to departure room) ≡ Err r
            → FlaggedNumber r.number ⊎ Between 25 high r.number
        by h f (Err q) n r e =
            let (l, k) = n q refl in
            let z = same_number q r e in
            inl (inl (omega arith, omega arith))
        by h f (Ok k) n r e = inr (asked_numbers h from to departure room (roomy h f) r e)

        go : (o : Result Header Refusal) → validated network ≡ o → Numbered NetworkNumber o → (r : Refusal)
            → and_then o (λ h. planned_then (planned h (decode network) plan)
            (asked h from to departure room)) ≡ Err r
            → FlaggedNumber r.number ⊎ Between 25 high r.number
        go (Err q) f n r e = inl (⊎_elim (λ k. inl (k.0, omega (arith, k.1))) (λ k. inr k) (n r e))
        go (Ok h) f n r e =
            by h f (planned h (decode network) plan) (planned_numbers h (decode network) plan) r e

-- WHAT COMES BEFORE A SEARCH is as a trip's promises need it
leaves : {network : List ℕ} {h : Header} {from to departure room : ℕ} → Begun network h from to departure room
    → Leaves (graph_of (decode network)) from to departure room
leaves {from = from} {departure = departure} d = record {
  leaving = valid_leaving d.valid from departure d.asks.from_node d.asks.early;
  target = omega (arith, drive_nodes d.valid, d.asks.to_node);
  long = omega (arith, drive_nodes d.valid, d.asks.long);
}

-- all of them are numbers before a search
early : {low : ℕ} → low ≤ 27 → {n : ℕ} → (Between 1 low n ⊎ (n ≡ 37)) ⊎ Between 25 27 n → BeforeSearch n
early l (inl (inl k)) = inl (k.0, omega (arith, k.1))
early l (inl (inr k)) = inr (omega arith)
early l (inr k) = inl (omega (arith, k.0), k.1)

module _ (network : List ℕ) (from to departure room : ℕ) where
  pub plain_begins : Begins (plain_begin network from to departure room)
      (graph_of (decode network)) from to departure room
  plain_begins = record {
    numbers = λ r e. early (lit≤ tt)
        (plain_before 27 (omega arith) network from to departure room (inr (omega arith)) r e);
    opened = λ h e. leaves (begun network h from to departure room e);
  }

  pub flagged_begins : (plan : List ℕ) → Begins (flagged_begin network plan from to departure room)
      (graph_of (decode network)) from to departure room
  flagged_begins plan = record {
    numbers = λ r e. early (lit≤ tt)
        (flagged_before 27 (omega arith) network from to departure room (inr (omega arith)) plan r e);
    opened = λ h e. leaves (flagged_begun network plan h from to departure room e);
  }

-- THE NUMBERS of a trip, from those before its search
module _ {b : Result Header Refusal} {g : Graph} {s t x room : ℕ} (w : Begins b g s t x room) (p : Permit)
    (free high : ℕ) (File : ℕ → Type 0) (r : Refusal)
    (e : trip_answer b (searched g p s t x free) ≡ Err r)
    (before : b ≡ Err r → File r.number ⊎ Between 25 high r.number) where
  all_numbers : high ≤ 29 → File r.number ⊎ Between 25 29 r.number
  all_numbers h = ⊎_elim
      (λ f. ⊎_elim (λ k. inl k) (λ k. inr (k.0, omega (arith, k.1))) (before f))
      (λ n. inr (⊎_elim (λ k. (omega arith, omega arith)) (λ k. (omega arith, omega arith)) n))
      (trip_refused w p free refl r e)

  -- 28 is the only one after the search, where there is room for every path
  call_numbers : most_roads ≤ free
      → File r.number ⊎ (Between 25 high r.number ⊎ (r.number ≡ 28))
  call_numbers l = ⊎_elim
      (λ f. ⊎_elim (λ k. inl k) (λ k. inr (inl k)) (before f))
      (λ n. ⊎_elim (λ k. inr (inr k)) (λ k. absurd (never_short w p free (sym e) l k)) n)
      (trip_refused w p free refl r e)

module _ (network : List ℕ) (from to departure : ℕ) (r : Refusal) where
  pub plain_numbers : (room free : ℕ) → plain_answer network from to departure room free ≡ Err r
      → NetworkNumber r.number ⊎ Between 25 29 r.number
  plain_numbers room free e =
      all_numbers (plain_begins network from to departure room) all free 27 NetworkNumber r e
      (plain_before 27 (omega arith) network from to departure room (inr (omega arith)) r) (omega arith)

  pub flagged_numbers : (plan : List ℕ) (room free : ℕ)
      → flagged_answer network plan from to departure room free ≡ Err r
      → FlaggedNumber r.number ⊎ Between 25 29 r.number
  flagged_numbers plan room free e =
      all_numbers (flagged_begins network from to departure room plan)
      (flagged_arcs network plan to) free 27 FlaggedNumber r e
      (flagged_before 27 (omega arith) network from to departure room (inr (omega arith)) plan r)
      (omega arith)

  pub plain_call_numbers : plain_call network from to departure ≡ Err r
      → NetworkNumber r.number ⊎ (Between 25 26 r.number ⊎ (r.number ≡ 28))
  plain_call_numbers e =
      call_numbers (plain_begins network from to departure most_nodes) all most_roads 26 NetworkNumber r e
      (plain_before 26 (omega arith) network from to departure most_nodes (inl (omega arith)) r) (omega arith)

  pub flagged_call_numbers : (plan : List ℕ) → flagged_call network plan from to departure ≡ Err r
      → FlaggedNumber r.number ⊎ (Between 25 26 r.number ⊎ (r.number ≡ 28))
  flagged_call_numbers plan e =
      call_numbers (flagged_begins network from to departure most_nodes plan)
      (flagged_arcs network plan to) most_roads 26 FlaggedNumber r e
      (flagged_before 26 (omega arith) network from to departure most_nodes (inl (omega arith)) plan r)
      (omega arith)
