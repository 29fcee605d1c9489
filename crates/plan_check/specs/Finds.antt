-- How many finds the check made, by document 02: none beside 1 to 20, else for each border no more than it
-- allows for ONE of the tests 21 to 24, since one pass serves all of them; and on acceptance no fewer than
-- all profiles have points. How many are allowed is said in plan_tests/specs/Finds.antt, where a find is
-- too.
use mathlib.Core.{Path.◌≡◌, Path.sym, Path.◌∙◌, List.List}
use Rattle.std.specs.Prelude.{ℕ, ◌*◌, ◌^◌, ◌≤◌, ◌<◌, Result, Ok, Err, ⊤}
use Rattle.std.proofs.Common.{arith}
use Rattle.theory_loops.specs.{Total.total, Sums.total_zero}
use Rattle.file_refusals.specs.Apart.{not_both}
use Rattle.file_refusals.specs.declared.Refusal.{Refusal}
use Rattle.network.specs.{Network.nodes, Decode.decode, Town.partition_of}
use Rattle.plan.specs.{Border.border_count, Plan.point_count, PlanDecode.decode_plan}
use Rattle.plan_tests.specs.Finds.{allowed}

pub record Finds (network plan : List ℕ) (verdict : Result ⊤ Refusal) (finds : ℕ) : Type 0 where
  pub none : (r : Refusal) → verdict ≡ Err r → r.number ≤ 20 → finds ≡ 0
  -- those for border number i
  pub each : ℕ → ℕ
  pub sum : finds ≡ total (border_count (partition_of (decode network))) each
  pub within : (i : ℕ) → i < border_count (partition_of (decode network))
      → each i ≤ allowed (decode network) (decode_plan plan) i
  pub enough : verdict ≡ Ok tt
      → total (border_count (partition_of (decode network)) * nodes (decode network))
      (point_count (decode_plan plan))
      ≤ finds
  pub small : finds < 2 ^ 64

-- a refusal before these tests, for which nothing was found
pub finds_none : (network plan : List ℕ) {v : Result ⊤ Refusal} {k : ℕ} (r : Refusal) → v ≡ Err r → k ≡ 0
    → Finds network plan v k
finds_none network plan r e f = record {
  none = λ _ _ _. f;
  each = λ _. 0;
  sum = f ∙ sym (total_zero (border_count (partition_of (decode network))));
  within = λ i h. omega arith;
  enough = λ g. not_both r tt (sym e ∙ g);
  small = omega arith;
}
