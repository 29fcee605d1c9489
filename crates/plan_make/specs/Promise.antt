-- What Make plan promises: where it answers a length, so many lent bytes are a plan's file, which is the plan
-- that is made of the network, and the check accepts it (`made_plan_lem`).
use mathlib.Core.{Path.◌≡◌, Path.refl, Path.sym, Path.◌∙◌, List.List}
use Rattle.file_refusals.specs.Apart.{same_value, not_both}
use Rattle.std.specs.Prelude.{ℕ, ◌≤◌, Result, Ok, Err}
use Rattle.std.proofs.Common.{ltb-false}
use lib.{Dec.ltb, ListN.length, ListN.take, ListN.drop, Seq.take_at}
use Rattle.theory_loops.specs.Pick.{passed_by_lem}
use Rattle.file_fields.specs.Fields.{Bytes}
use Rattle.file_refusals.specs.declared.Refusal.{Refusal}
use Rattle.file_refusals.specs.{Refusal.refusal, Writing.written_into}
use Rattle.network.specs.declared.header.Header.{Header}
use Rattle.network.specs.{Network.Network, Decode.decode, Validate.validated}
use Rattle.network.specs.Valid.{ValidFile}
use Rattle.network.proofs.Valid.{valid_exactly}
use Rattle.plan.specs.{PlanDecode.decode_plan, PlanDecode.point_total, PlanLimits.most_profile_points}
use Rattle.plan_check.specs.CheckPlan.{checking}
use Rattle.plan_made.specs.File.{made_plan, made_file, made_decodes}
use Rattle.plan_made.specs.Accepts.{valid_modest, file_accepted}
use Rattle.toward_list.specs.Work.{work_size}
use Rattle.plan_make.specs.Make.{made_into, made_with, made_over, MakeCall}

-- The first bytes of a list, as many as were answered, are the network's plan.
pub record MadePlan (network out : List ℕ) (y : ℕ) : Type 0 where
  pub file : take y out ≡ made_file (decode network)
  pub plan : decode_plan (take y out) ≡ made_plan (decode network)
  pub accepted : checking network (take y out) ≡ Ok tt

-- what is written was refused nowhere on the way
over_passed : (o : Result Header Refusal) (n : Network) (work room : ℕ) (y : ℕ) → made_over o n work room ≡ Ok y
    → (h : Header) × (o ≡ Ok h) × (made_with n work room ≡ Ok y)
over_passed (Err r) n work room y e = not_both r y e
over_passed (Ok h) n work room y e = (h, refl, e)

with_passed : (n : Network) (work room : ℕ) (y : ℕ) → made_with n work room ≡ Ok y
    → (point_total (made_plan n) ≤ most_profile_points) × (y ≡ length (made_file n))
unfolding made_with made_into written_into
with_passed n work room y e =
    let (_, e₁) = passed_by_lem (ltb work (work_size n)) _ _ (Ok y) (not_both (refusal 34 0) y) e in
    let (f, e₂) = passed_by_lem (ltb most_profile_points (point_total (made_plan n))) _ _ (Ok y)
    (not_both (refusal 33 0) y) e₁ in
    let (_, e₃) = passed_by_lem (ltb room (length (made_file n))) _ _ (Ok y)
    (not_both (refusal 31 0) y) e₂ in (
      ltb-false _ _ f,
      sym (same_value (length (made_file n)) y e₃),
    )

pub made_plan_lem : {network work₀ work₁ out₀ out₁ : List ℕ} {r : Result ℕ Refusal} → Bytes network
    → MakeCall network work₀ work₁ out₀ out₁ r → (y : ℕ) → r ≡ Ok y → MadePlan network out₁ y
made_plan_lem {network} {work₀} {work₁} {out₀} {out₁} s c y e =
    let n = decode network in
    let (h, o, p) = over_passed (validated network) n (length work₀) (length out₀) y (sym c.answer ∙ e) in
    let (few, long) = with_passed n (length work₀) (length out₀) y p in
    let v : ValidFile network h = (valid_exactly network h).0 o in
    let f : take y out₁ ≡ made_file n =
    rw (c.written, e) (take_at (made_file n) (drop (length (made_file n)) out₀) y (sym long)) in
    record {
      file = f;
      plan = rw f (made_decodes v (valid_modest v) s few);
      accepted = rw f (file_accepted v s few);
    }
