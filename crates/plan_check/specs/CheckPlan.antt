-- The check of a plan file against a network file: 1 to 10 with 37, 11 to 19, then 20 to 24. It accepts
-- exactly the plans whose profiles are the true least travels and whose flags are enough (`accepts_exactly`),
-- for every network that opens and every plan that is well-formed for it.
use mathlib.Core.{Path.◌≡◌, Path.refl, Path.sym, Path.◌∙◌, Logic.◌↔◌, List.List}
use Rattle.std.specs.Prelude.{ℕ, Result, Ok, Err, ⊤}
use Rattle.std.proofs.Common.{arith}
use Rattle.theory_paths.specs.{Graph.Lawful, Partition.Partition, Flags.TrueProfiles, Flags.EnoughFlags}
use Rattle.network.specs.declared.header.Header.{Header}
use Rattle.network.specs.{Network.cell, Decode.decode, Validate.validated}
use Rattle.network.specs.Valid.{ValidFile}
use Rattle.network.proofs.Valid.{valid_exactly}
use Rattle.network.specs.Town.{graph_of, partition_of, town_lawful}
use Rattle.plan.specs.declared.header.PlanHeader.{PlanHeader}
use Rattle.plan.specs.{Plan.Plan, Plan.flag, Plan.profile_to, PlanDecode.decode_plan, PlanValidate.planned}
use Rattle.plan.specs.{PlanMatch.valid_headed, PlanValid.ValidPlan, PlanValid.plan_exactly}
use Rattle.file_refusals.specs.declared.Refusal.{Refusal}
use Rattle.plan_check.specs.{Check.checked, Exact.check_exact}

-- the tests, where the plan is well-formed
abbrev pub checked_by : Partition → Plan → Result PlanHeader Refusal → Result ⊤ Refusal
checked_by G p (Err r) = Err r
checked_by G p (Ok k) = checked G p

abbrev pub checked_over : List ℕ → List ℕ → Result Header Refusal → Result ⊤ Refusal
checked_over network plan (Err r) = Err r
checked_over network plan (Ok h) =
    checked_by (partition_of (decode network)) (decode_plan plan) (planned h (decode network) plan)

abbrev pub checking : List ℕ → List ℕ → Result ⊤ Refusal
checking network plan = checked_over network plan (validated network)

-- the graph of a network file that opens keeps the laws of graphs
valid_lawful : {network : List ℕ} {h : Header} → ValidFile network h → Lawful (graph_of (decode network))
valid_lawful v = town_lawful v.sound (omega (arith, (valid_headed v).period, v.within.period_some))

-- What an accepted pair of files is.
pub record AcceptedPlan (network plan : List ℕ) : Type 0 where
  pub header : Header
  pub plan_header : PlanHeader
  pub valid : ValidFile network header
  pub valid_plan_lem : ValidPlan header (decode network) plan plan_header
  pub tests : checked (partition_of (decode network)) (decode_plan plan) ≡ Ok tt

pub accepted_lawful : {network plan : List ℕ} → AcceptedPlan network plan → Lawful (graph_of (decode network))
accepted_lawful a = valid_lawful a.valid

by_accepted : (G : Partition) (p : Plan) (m : Result PlanHeader Refusal) → checked_by G p m ≡ Ok tt
    → (k : PlanHeader) × (m ≡ Ok k) × (checked G p ≡ Ok tt)
by_accepted G p (Err r) e = let z : ◌≡◌ {A = ℕ} 0 1 = cc in absurd (omega arith)
by_accepted G p (Ok k) e = (k, refl, e)

over_accepted : (network plan : List ℕ) (o : Result Header Refusal) → checked_over network plan o ≡ Ok tt
    → (h : Header) × (o ≡ Ok h)
    ×
    (checked_by (partition_of (decode network)) (decode_plan plan) (planned h (decode network) plan) ≡ Ok tt)
over_accepted network plan (Err r) e = let z : ◌≡◌ {A = ℕ} 0 1 = cc in absurd (omega arith)
over_accepted network plan (Ok h) e = (h, refl, e)

pub accepted_plan : (network plan : List ℕ) → checking network plan ≡ Ok tt → AcceptedPlan network plan
accepted_plan network plan e =
    let (h, f, g) = over_accepted network plan (validated network) e in
    let v = (valid_exactly network h).0 f in
    let (k, i, j) =
    by_accepted (partition_of (decode network)) (decode_plan plan) (planned h (decode network) plan) g in
    record { header = h; plan_header = k; valid = v; valid_plan_lem = (plan_exactly v plan k).0 i; tests = j }

module _ {network plan : List ℕ} {h : Header} {k : PlanHeader} (v : ValidFile network h)
    (w : ValidPlan h (decode network) plan k) where
  reached : checking network plan ≡ checked (partition_of (decode network)) (decode_plan plan)
  reached = rw ((valid_exactly network h).1 v, (plan_exactly v plan k).1 w)

  -- for every network that opens and every plan that is well-formed for it
  pub accepts_exactly : (checking network plan ≡ Ok tt)
      ↔
      (TrueProfiles (graph_of (decode network)) (cell (decode network))
      (profile_to (partition_of (decode network)) (decode_plan plan))
      × EnoughFlags (graph_of (decode network)) (cell (decode network)) (flag (decode_plan plan)))
  accepts_exactly =
      let x = check_exact (decode_plan plan) (valid_lawful v) in
      (λ e. x.0 (sym reached ∙ e), λ c. reached ∙ x.1 c)
