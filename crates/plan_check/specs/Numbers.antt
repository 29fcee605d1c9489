-- The numbers of refusals: those of the tests lie between 20 and 24, and those of the check are 1 to 24 and
-- 37.
use mathlib.Core.{Path.◌≡◌, Path.refl, Logic.◌⊎◌, Logic.inl, Logic.inr, Logic.⊎_elim, List.List}
use Rattle.std.specs.Prelude.{ℕ, ◌≤◌, Result, Ok, Err, ⊤}
use Rattle.std.proofs.Common.{arith}
use Rattle.theory_loops.specs.{Pick.cond_holds, Pick.rung_holds, Triple.first_triple_rung, Triple.any_triple}
use Rattle.file_refusals.specs.declared.Refusal.{Refusal}
use Rattle.theory_paths.specs.Partition.{Partition}
use Rattle.network.specs.{Decode.decode, Town.partition_of, Validate.validated}
use Rattle.file_refusals.specs.Numbered.{Between, Numbered, numbered}
use Rattle.network.specs.Numbers.{NetworkNumber, validated_numbers}
use Rattle.plan.specs.{Numbers.planned_numbers, Border.border_count, Plan.Plan, PlanDecode.decode_plan}
use Rattle.plan_tests.specs.Tests.{fails}
use Rattle.plan_check.specs.Check.{triple_rung, checked}
use Rattle.network.specs.declared.header.Header.{Header}
use Rattle.plan.specs.declared.header.PlanHeader.{PlanHeader}
use Rattle.plan_check.specs.CheckPlan.{checked_by, checked_over, checking as checkingOf}

-- THE TESTS, 20 to 24
abbrev Checks : Result ⊤ Refusal → Type 0
Checks = Numbered (Between 20 24)

triple_numbered : (number : ℕ) (G : Partition) (p : Plan) (next : Result ⊤ Refusal) → 20 ≤ number → number ≤ 24
    → Checks next → Checks (triple_rung number G p next)
unfolding triple_rung first_triple_rung
triple_numbered number G p next l h q =
    cond_holds Checks (any_triple (border_count G) G.graph.nodes G.graph.period (fails number G p)) _ _
    (numbered (Between 20 24) _ (l, h)) q

pub checked_numbers : (G : Partition) (p : Plan) → Numbered (Between 20 24) (checked G p)
unfolding checked
checked_numbers G p =
    rung_holds Checks _ _ _ _
    (λ i. numbered (Between 20 24) _ (omega arith, omega arith))
    (triple_numbered 21 G p _ (omega arith) (omega arith)
    (triple_numbered 22 G p _ (omega arith) (omega arith)
    (triple_numbered 23 G p _ (omega arith) (omega arith)
    (triple_numbered 24 G p _ (omega arith) (omega arith) accepted))))
  where
    accepted : Checks (Ok tt)
    accepted r e = let z : ◌≡◌ {A = ℕ} 0 1 = cc in absurd (omega arith)

-- THE CHECK, 1 to 24 and 37
abbrev pub CheckNumber : ℕ → Type 0
CheckNumber number = Between 1 24 number ⊎ (number ≡ 37)

pub check_numbers : (network plan : List ℕ) → Numbered CheckNumber (checkingOf network plan)
check_numbers network plan = over (validated network) (validated_numbers network)
  where
    by : (G : Partition) (p : Plan) (m : Result PlanHeader Refusal) → Numbered (Between 11 19) m
        → Numbered CheckNumber (checked_by G p m)
    by G p (Err q) h =
        let (x, y) = h q refl in
        numbered CheckNumber q (inl (omega arith, omega arith))
    by G p (Ok k) h =
        λ r e. let (x, y) = checked_numbers G p r e in inl (omega arith, omega arith)

    over : (o : Result Header Refusal) → Numbered NetworkNumber o
        → Numbered CheckNumber (checked_over network plan o)
    over (Err q) h = numbered CheckNumber q
        (⊎_elim (λ k. inl (k.0, omega (arith, k.1))) (λ k. inr k) (h q refl))
    over (Ok k) h =
        by (partition_of (decode network)) (decode_plan plan) _ (planned_numbers k (decode network) plan)
