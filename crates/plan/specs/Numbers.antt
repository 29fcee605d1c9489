-- The numbers of refusals of a plan file: between 11 and 19, and those of its rules between 17 and 19.
use mathlib.Core.{Path.◌≡◌, Path.refl, List.List}
use Rattle.std.specs.Prelude.{ℕ, ◌*◌, ◌≤◌, Result, Ok, Err, ⊤}
use Rattle.std.proofs.Common.{arith}
use lib.{ListN.length, Dec.eqb, Dec.ltb}
use Rattle.theory_loops.specs.Pick.{cond_holds, rung_holds}
use Rattle.file_fields.specs.Block.{block_size}
use Rattle.file_forms.specs.Form.{bad_length}
use Rattle.file_refusals.specs.declared.{Refusal.Refusal}
use Rattle.network.specs.declared.header.Header.{Header}
use Rattle.network.specs.{Network.Network, Town.partition_of}
use Rattle.file_refusals.specs.Refusal.{refusal}
use Rattle.file_refusals.specs.Numbered.{Between, Numbered, numbered}
use Rattle.plan.specs.declared.header.PlanHeader.{PlanHeader}
use Rattle.plan.specs.{Border.border_count, Plan.Plan, Plan.point_start, PlanLimits.most_plan_bytes}
use Rattle.plan.specs.{PlanHeader.plan_header_at, PlanLayout.plan_blocks, PlanValidate.planned}
use Rattle.plan.specs.PlanDecode.{decode_plan, point_total}
use Rattle.plan.specs.PlanRules.{judged_ticks, judged_sum, judged_counts, judged_flags, plan_judged}
use Rattle.plan.specs.PlanValidate.{first_unformed, planned_rules, planned_form}
use Rattle.plan.specs.PlanValidate.{planned_length, matching, planned_header, first_formed, planned_first}

-- THE RULES 17 TO 19
abbrev Judges : Result ⊤ Refusal → Type 0
Judges = Numbered (Between 17 19)

pub flags_numbers : (arcs cells period profiles : ℕ) (p : Plan)
    → Numbered (Between 17 19) (judged_flags arcs cells period profiles p)
unfolding judged_flags judged_counts judged_sum judged_ticks
flags_numbers arcs cells period profiles p =
    rung_holds Judges _ _ _ _ (λ i. is 17 i (omega arith) (omega arith))
    (rung_holds Judges _ _ _ _ (λ i. is 18 i (omega arith) (omega arith))
    (cond_holds Judges (eqb (point_start p profiles) (point_total p)) _ _
    (rung_holds Judges _ _ _ _ (λ i. is 19 _ (omega arith) (omega arith)) sound)
    (is 18 profiles (omega arith) (omega arith))))
  where
    is : (number place : ℕ) → 17 ≤ number → number ≤ 19 → Judges (Err (refusal number place))
    is number place l h = numbered (Between 17 19) (refusal number place) (l, h)

    sound : Judges (Ok tt)
    sound r e = let z : ◌≡◌ {A = ℕ} 0 1 = cc in absurd (omega arith)

-- THE FORM, 11 to 19
abbrev Plans : Result PlanHeader Refusal → Type 0
Plans = Numbered (Between 11 19)

plan_numbered : (number place : ℕ) → 11 ≤ number → number ≤ 19
    → Plans (Err (refusal number place))
plan_numbered number place l h =
    numbered (Between 11 19) (refusal number place) (l, h)

by_rules : (k : PlanHeader) (j : Result ⊤ Refusal) → Judges j → Plans (planned_rules k j)
by_rules k (Ok _) n = λ r e. let z : ◌≡◌ {A = ℕ} 0 1 = cc in absurd (omega arith)
by_rules k (Err q) n =
    let (x, y) = n q refl in
    numbered (Between 11 19) q (omega arith, omega arith)

pub planned_numbers : (h : Header) (n : Network) (file : List ℕ)
    → Numbered (Between 11 19) (planned h n file)
unfolding planned planned_first planned_header planned_length planned_form
planned_numbers h n file =
    cond_holds Plans (bad_length most_plan_bytes (length file)) _ _
    (plan_numbered 11 0 (omega arith) (omega arith))
    (rung_holds Plans _ _ _ _ (λ i. plan_numbered 12 i (omega arith) (omega arith))
    (cond_holds Plans (first_formed file) _ _
    (cond_holds Plans (matching h (border_count (partition_of n)) k) _ _
    (cond_holds Plans (eqb (length file) (block_size * plan_blocks k)) _ _
    (cond_holds Plans (ltb bad (plan_blocks k)) _ _ (plan_numbered 16 bad (omega arith) (omega arith))
    (by_rules k (plan_judged n (decode_plan file)) (flags_numbers _ _ _ _ _)))
    (plan_numbered 15 0 (omega arith) (omega arith)))
    (plan_numbered 14 0 (omega arith) (omega arith)))
    (plan_numbered 13 0 (omega arith) (omega arith))))
  where
    k : PlanHeader
    k = plan_header_at file

    bad : ℕ
    bad = first_unformed file k
