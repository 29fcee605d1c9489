-- The flagged trip: validation of both files, the refusals 25 to 27, and a search over the arcs with the flag
-- of the target's cell.
use mathlib.Core.{Path.◌≡◌, Path.refl, Path.sym, Path.◌∙◌, Path.ap, List.List}
use Rattle.std.specs.Prelude.{Bool, true, false, cond, ℕ, ◌≤◌, ◌<◌, Result, Ok, Err}
use Rattle.std.proofs.Common.{arith}
use lib.{ListN.length, ListN.replicate, ListN.length-replicate, Dec.eqb}
use Rattle.theory_loops.specs.Fill.{Filled}
use Rattle.theory_paths.specs.{Graph.Graph, Graph.Permit, Flags.flagged}
use Rattle.file_refusals.specs.declared.Refusal.{Refusal}
use Rattle.network.specs.declared.header.Header.{Header}
use Rattle.network.specs.{Limits.most_arcs, Limits.most_cells, Network.arcs, Network.cell, Decode.decode}
use Rattle.network.specs.{Town.graph_of, Town.partition_of, Validate.validated}
use Rattle.network.specs.Valid.{ValidFile}
use Rattle.network.proofs.Valid.{valid_exactly}
use Rattle.plan.specs.declared.header.{PlanHeader.PlanHeader, PlanLayout.PlanLayout}
use Rattle.plan.specs.{Plan.Plan, Plan.bit, Plan.flag, Plan.towards, PlanLayout.plan_layout_of}
use Rattle.plan.specs.{PlanDecode.decode_plan, PlanDecode.PlanLaid, PlanDecode.flag_word, PlanValidate.planned}
use Rattle.plan.specs.PlanHeader.{PlanWithin}
use Rattle.plan.specs.PlanValid.{ValidPlan, valid_within, valid_plan_laid, valid_for, plan_exactly}
use Rattle.search_labels.specs.Ready.{permit_of}
use Rattle.trip_call.specs.{Trip.asked, Trip.and_then, Trip.TripCall, Stage.asked_passed, Stage.then_passed}
use Rattle.trip_call.specs.Drive.{call_permit, drive_nodes, drive_arcs, drive_cells, drive_period}
use Rattle.search_path.specs.declared.answer.Arrival.{Arrival}
use Rattle.trip_plain.specs.Plain.{Begun}

-- a ladder after the validation of a plan
abbrev pub planned_then : Result PlanHeader Refusal → Result Header Refusal → Result Header Refusal
planned_then (Err r) next = Err r
planned_then (Ok k) next = next

-- what comes before the search: 1 to 10 and 37, 11 to 19, then 25 to 27
abbrev pub flagged_with : Header → List ℕ → List ℕ → ℕ → ℕ → ℕ → ℕ → Result Header Refusal
flagged_with h network plan from to departure room =
    planned_then (planned h (decode network) plan) (asked h from to departure room)

abbrev pub flagged_begin : List ℕ → List ℕ → ℕ → ℕ → ℕ → ℕ → Result Header Refusal
flagged_begin network plan from to departure room =
    and_then (validated network) (λ h. flagged_with h network plan from to departure room)

-- the arcs of the network with the plan's flag of the target's cell
abbrev pub flagged_arcs : List ℕ → List ℕ → ℕ → Permit
flagged_arcs network plan to = towards (partition_of (decode network)) (decode_plan plan) to

-- THE FLAGGED TRIP, after what comes before its search: the lists at entry and at exit, and the answer
abbrev pub FlaggedAfter : Result Header Refusal → List ℕ → List ℕ → ℕ → ℕ → ℕ → List ℕ → List ℕ → List ℕ → List ℕ → Result Arrival Refusal
    → Type 0
FlaggedAfter b network plan from to departure arrivals₀ arrivals₁ roads₀ roads₁ a =
    TripCall b (graph_of (decode network))
    (flagged_arcs network plan to) from to departure arrivals₀ arrivals₁ roads₀ roads₁ a

abbrev pub FlaggedTrip : List ℕ → List ℕ → ℕ → ℕ → ℕ → List ℕ → List ℕ → List ℕ → List ℕ → Result Arrival Refusal → Type 0
FlaggedTrip network plan from to departure arrivals₀ arrivals₁ roads₀ roads₁ a =
    FlaggedAfter (flagged_begin network plan from to departure (length arrivals₀))
    network plan from to departure arrivals₀ arrivals₁ roads₀ roads₁ a

-- what it has shown where nothing before its search is refused
planned_passed : (m : Result PlanHeader Refusal) (next : Result Header Refusal) (h : Header) → planned_then m next ≡ Ok h
    → next ≡ Ok h
planned_passed (Err r) next h e = let z : ◌≡◌ {A = ℕ} 0 1 = cc in absurd (omega arith)
planned_passed (Ok k) next h e = e

pub flagged_begun : (network plan : List ℕ) (h : Header) (from to departure room : ℕ)
    → flagged_begin network plan from to departure room ≡ Ok h → Begun network h from to departure room
flagged_begun network plan h from to departure room e =
    let (k, v, f) =
    then_passed (validated network) (λ h. flagged_with h network plan from to departure room) h e in
    let (a, q) =
    asked_passed k h from to departure room (planned_passed (planned k (decode network) plan) _ h f) in
    record { valid = (valid_exactly network h).0 (v ∙ ap (λ (x : Header). Ok x) q); asks = a }

-- the mask's entry for arc a, towards cell c
abbrev pub mask_of : Plan → ℕ → ℕ → ℕ
mask_of p c a = cond (flag p a c) 1 0

-- a mask filled so permits the flagged arcs
mask_permits : (p : Plan) (c n : ℕ) (old mask : List ℕ) → Filled 0 n (mask_of p c) old mask → (a : ℕ) → a < n
    → permit_of mask a ≡ flagged (flag p) c a
mask_permits p c n old mask f a l = ap (λ (m : ℕ). eqb m 1) (f.written a (omega arith) l) ∙ go (flag p a c)
  where
    go : (b : Bool) → eqb (cond b 1 0) 1 ≡ b
    go true = refl
    go false = refl

-- FOR THE LOOP that fills it
pub mask_entry : (p : Plan) (c a word r : ℕ) → word ≡ flag_word p a → r ≡ cond (bit word c) 1 0
    → r ≡ mask_of p c a
mask_entry p c a word r e f = rw e at f

-- WHAT A VALID NETWORK AND A WELL-FORMED PLAN GIVE the search
module _ {network plan : List ℕ} {h : Header} {k : PlanHeader} (v : ValidFile network h)
    (w : ValidPlan h (decode network) plan k) where
  pub flags_within : PlanWithin k
  flags_within = valid_within v w

  pub flags_laid : (l : PlanLayout) → l ≡ plan_layout_of k → PlanLaid plan l
  flags_laid l e = rw e (valid_plan_laid v w)

  flags_are : (l : PlanLayout) → l ≡ plan_layout_of k → l.arcs ≡ arcs (decode network)
  flags_are l e = ap (λ (x : PlanLayout). x.arcs) e ∙ (valid_for v w).arcs_are

  pub flags_few : (l : PlanLayout) → l ≡ plan_layout_of k → l.arcs ≤ most_arcs
  flags_few l e = omega (arith, flags_are l e, drive_arcs v, v.within.arcs_most)

  -- a fresh mask has room for the arcs, and so has one that was filled
  pub fresh_mask : (l : PlanLayout) → l ≡ plan_layout_of k → l.arcs ≤ length {A = ℕ} (replicate most_arcs 0)
  fresh_mask l e = rw length-replicate (flags_few l e)

  pub filled_mask : (n : ℕ) (f : ℕ → ℕ) (mask : List ℕ) → Filled 0 n f (replicate most_arcs 0) mask
      → h.arcs ≤ length mask
  filled_mask n f mask d = omega (arith, d.long, length-replicate {A = ℕ} most_arcs 0, v.within.arcs_most)

  -- the target's cell
  pub cell_few : (c t : ℕ) → t < h.nodes → c ≡ cell (decode network) t → c < most_cells
  cell_few c t l e =
      let b = v.sound.cells_below t (omega (arith, drive_nodes v)) in
      omega (arith, drive_cells v, v.within.cells_most)

  some : 0 < (decode network).period
  some = omega (arith, drive_period v, v.within.period_some)

  -- a mask that was filled for it permits the arcs towards the target
  module _ (c t : ℕ) (l : PlanLayout) (old mask : List ℕ) (d : c ≡ cell (decode network) t)
      (e : l ≡ plan_layout_of k)
      (f : Filled 0 l.arcs (mask_of (decode_plan plan) c) old mask) where
    permits : (a : ℕ) → a < arcs (decode network) → permit_of mask a ≡ flagged_arcs network plan t a
    permits a m =
        mask_permits (decode_plan plan) c l.arcs old mask f a (omega (arith, flags_are l e))
        ∙ ap (λ (x : ℕ). flag (decode_plan plan) a x) d

    pub flagged_driven : (s x : ℕ) (arrivals₀ arrivals₁ roads₀ roads₁ : List ℕ) (a : Result Arrival Refusal)
        → TripCall (Ok h) (graph_of (decode network))
        (permit_of mask) s t x arrivals₀ arrivals₁ roads₀ roads₁ a
        → FlaggedAfter (Ok h) network plan s t x arrivals₀ arrivals₁ roads₀ roads₁ a
    flagged_driven s x arrivals₀ arrivals₁ roads₀ roads₁ a =
        call_permit (graph_of (decode network)) (permit_of mask) (flagged_arcs network plan t) some permits s t x

-- for `search flags` where the flagged trip is driven
pub ruleset flags = (flags_within, flags_laid, flags_few, fresh_mask, filled_mask, cell_few, flagged_driven)

-- the stage of the plan: refused, or gone on from
module _ (m M : Result PlanHeader Refusal) (e : m ≡ M) (next : Result Header Refusal) (g : Graph) (p : Permit) (s t x : ℕ) where
  pub plan_refused : (r : Refusal) → m ≡ Err r → (arrivals roads : List ℕ) (a : Result Arrival Refusal)
      → a ≡ Err r → TripCall (planned_then M next) g p s t x arrivals arrivals roads roads a
  plan_refused r f arrivals roads a k =
      record { answer = rw (← e, f) k; arrivals = rw (← e, f); roads = rw k }

  pub plan_opened : (k : PlanHeader) → m ≡ Ok k
      → (arrivals₀ arrivals₁ roads₀ roads₁ : List ℕ) (a : Result Arrival Refusal)
      → TripCall next g p s t x arrivals₀ arrivals₁ roads₀ roads₁ a
      → TripCall (planned_then M next) g p s t x arrivals₀ arrivals₁ roads₀ roads₁ a
  plan_opened k f arrivals₀ arrivals₁ roads₀ roads₁ a c = rw (← e, f) c

-- what is valid by then
module _ {network : List ℕ} {h : Header} (v : ValidFile network h) where
  pub stage_plan : (plan : List ℕ) (m : Result PlanHeader Refusal) (k : PlanHeader) → m ≡ planned h (decode network) plan
      → m ≡ Ok k
      → ValidPlan h (decode network) plan k
  stage_plan plan m k e f = (plan_exactly v plan k).0 (sym e ∙ f)

-- for `search plan_stages`
pub ruleset plan_stages = (plan_refused, plan_opened, stage_plan)
