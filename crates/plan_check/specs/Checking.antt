-- From validation to the tests: what a network that opens and a plan that is well-formed for it give the
-- check, and the laws by which its code goes on from stage to stage.
use mathlib.Core.{Path.◌≡◌, Path.sym, Path.◌∙◌, List.List}
use Rattle.std.specs.Prelude.{ℕ, Result, Ok, Err, ⊤}
use Rattle.theory_paths.specs.Partition.{Partition}
use Rattle.file_refusals.specs.declared.Refusal.{Refusal}
use Rattle.network.specs.declared.header.{Header.Header, Layout.Layout}
use Rattle.network.specs.{Layout.layout_of, Decode.decode, Decode.Laid, Decode.laid_sizes, Town.partition_of}
use Rattle.network.specs.{Sound.SoundNetwork, Validate.validated}
use Rattle.network.specs.Valid.{ValidFile}
use Rattle.network.proofs.Valid.{valid_laid, valid_exactly}
use Rattle.search_chains.specs.Town.{town_of}
use Rattle.plan.specs.declared.header.PlanHeader.{PlanHeader}
use Rattle.plan_tests.specs.declared.tests.Layouts.{Layouts}
use Rattle.plan.specs.{Borders.listed_front, Plan.Plan, PlanLayout.plan_layout_of, PlanHeader.PlanWithin}
use Rattle.plan.specs.{PlanDecode.decode_plan, PlanDecode.plan_sizes, PlanValidate.planned}
use Rattle.plan.specs.PlanValid.{ValidPlan, valid_within, valid_plan_laid, valid_for, plan_exactly}
use Rattle.plan_check.specs.{Check.checked, CheckPlan.checked_by, CheckPlan.checking}
use Rattle.plan_tests.specs.Checkable.{Checkable}
use Rattle.plan_values.specs.Formed.{formed_of}

module _ {network : List ℕ} {h : Header} (v : ValidFile network h) where
  pub check_laid : (l : Layout) → l ≡ layout_of h → Laid network l
  check_laid l e = rw e (valid_laid v)

  pub check_sound : SoundNetwork (decode network)
  check_sound = v.sound

  pub check_plan_valid : (plan : List ℕ) (m : Result PlanHeader Refusal) (k : PlanHeader) → m ≡ planned h (decode network) plan
      → m ≡ Ok k → ValidPlan h (decode network) plan k
  check_plan_valid plan m k e f = (plan_exactly v plan k).0 (sym e ∙ f)

  module _ {plan : List ℕ} {k : PlanHeader} (w : ValidPlan h (decode network) plan k) where
    pub check_within : PlanWithin k
    check_within = valid_within v w

    pub check_able : (l : Layouts) → l.network ≡ layout_of h → l.plan ≡ plan_layout_of k
        → Checkable network plan l
    check_able l e f =
        let d = check_laid l.network e in
        let z = laid_sizes d in
        let p = rw (sym f) at (valid_for v w) in
        let q = rw (sym f) at (valid_plan_laid v w) in
        let s = w.well_formed_lem in
        record {
          town = town_of d v.sound;
          formed =
              formed_of q (rw p.profiles_are (s.sum ∙ sym (plan_sizes q).points))
              (λ i m c. rw p.period (s.days i (rw p.profiles_are at m) c));
          period = p.period ∙ sym z.period;
          nodes = p.nodes_are ∙ sym z.nodes;
          arcs = p.arcs_are ∙ sym z.arcs;
          borders = p.borders_are;
        }

-- FOR THE CODE
pub check_formed_lem : (G : Partition) (p : Plan) (m M : Result PlanHeader Refusal) (k : PlanHeader) (r : Result ⊤ Refusal) → m ≡ M
    → m ≡ Ok k → r ≡ checked G p → r ≡ checked_by G p M
check_formed_lem G p m M k r e f g = rw (← e, f) g

pub check_unformed : (G : Partition) (p : Plan) (m M : Result PlanHeader Refusal) (r : Refusal) → m ≡ M
    → m ≡ Err r → Err r ≡ checked_by G p M
check_unformed G p m M r e f = rw (← e, f)

module _ (network plan : List ℕ) (v : Result Header Refusal) (e : v ≡ validated network) where
  pub check_refused : (r : Refusal) → v ≡ Err r → Err r ≡ checking network plan
  check_refused r f = rw (← e, f)

  pub check_opened_lem : (h : Header) (r : Result ⊤ Refusal) → v ≡ Ok h
      → r ≡ checked_by (partition_of (decode network)) (decode_plan plan) (planned h (decode network) plan)
      → r ≡ checking network plan
  check_opened_lem h r f g = rw (← e, f) g

pub check_valid : (network : List ℕ) (v : Result Header Refusal) (h : Header) → v ≡ validated network → v ≡ Ok h
    → ValidFile network h
check_valid network v h e f = (valid_exactly network h).0 (sym e ∙ f)

-- for `search checks` at the stages of the check
pub ruleset checks = (
  check_laid,
  check_sound,
  check_plan_valid,
  check_within,
  check_able,
  listed_front,
  check_formed_lem,
  check_unformed,
  check_refused,
  check_opened_lem,
  check_valid,
)
