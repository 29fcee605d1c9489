-- Validation of the two files with the tests of a block's check and form as arguments. With those of the
-- crate `file_blocks` it is the validation that the contracts cite; with the quick ones it computes fast; and
-- since the tests are equal, so are the answers.
use mathlib.Core.{Path.◌≡◌, Path.refl, Path.◌∙◌, Bool.Bool, Bool.cond, Bool.not, Bool.◌&&◌, List.List}
use Rattle.file_refusals.specs.Refusal.{refused}
use Rattle.std.specs.Prelude.{ℕ, ◌+◌, ◌*◌, ◌/◌, Result, Option, Some, None}
use lib.{ListN.length, Dec.ltb, Dec.eqb}
use Rattle.theory_loops.specs.Pick.{first_rung}
use Rattle.file_fields.specs.{Fields.le16, Sum.good}
use Rattle.file_blocks.specs.Place.{blocks, entries_in}
use Rattle.file_forms.specs.Form.{formed, unformed_or, bad_length}
use Rattle.network.specs.declared.header.{Header.Header}
use Rattle.network.specs.{Network.Network, Node.node_kind, Node.node_size, Node.node_per, Decode.decode}
use Rattle.network.specs.Layout.{arc_block, point_block, all_blocks, most_bytes}
use Rattle.network.specs.{Town.partition_of, Rules.judged}
use Rattle.network.specs.Validate as network
use Rattle.plan.specs.declared.header.PlanHeader.{PlanHeader}
use Rattle.plan.specs.{Border.border_count, PlanLimits.most_plan_bytes, PlanHeader.plan_header_at}
use Rattle.plan.specs.PlanLayout.{profile_count, count_block, plan_point_block, plan_blocks}
use Rattle.plan.specs.{PlanDecode.decode_plan, PlanRules.plan_judged}
use Rattle.plan.specs.PlanValidate as plan
use Rattle.file_refusals.specs.declared.Refusal.{Refusal}
use Rattle.example_theorem.specs.Quick.{quick_good, good_quick, quick_formed, formed_quick}

-- tests of a block: its check, and its form by kind, entries and used bytes
abbrev pub Checks : Type 0
Checks = ℕ → Bool

abbrev pub Forms : Type 0
Forms = ℕ → ℕ → ℕ → ℕ → Bool

module _ (check : Checks) (form : Forms) where
  -- the first block of a run that is out of its form, or what comes after the run
  abbrev pub first_off : ℕ → ℕ → ℕ → ℕ → ℕ → ℕ → ℕ
  first_off from kind per size n next =
      first_rung (λ j. from + j) (blocks per n)
      (λ j. not (form (from + j) kind (entries_in per n j) (8 + size * entries_in per n j))) next

  -- a network file
  abbrev pub off_network : Header → ℕ
  off_network h =
      first_off 1 (node_kind h.hours) (node_per h.hours) (node_size h.hours) h.nodes
      (first_off (arc_block h) 3 83 6 h.arcs (first_off (point_block h) 4 125 4 h.points (all_blocks h)))

  abbrev pub headed_by : List ℕ → Option Header → Result Header Refusal
  headed_by file (Some h) =
      cond (eqb (length file) (512 * all_blocks h))
      (cond (ltb (off_network h) (all_blocks h)) (refused 6 (off_network h))
      (network.validated_rules h (judged (decode file))))
      (refused 5 0)
  headed_by file None = refused 4 0

  abbrev pub validated_by : List ℕ → Result Header Refusal
  validated_by file =
      cond (bad_length most_bytes (length file)) (refused 1 0)
      (first_rung (refused 2) (length file / 512) (λ b. not (check b))
      (cond (form 0 1 1 25) (headed_by file (network.made_at file)) (refused 3 0)))

  -- a plan file
  abbrev pub off_plan : PlanHeader → ℕ
  off_plan k =
      first_off 1 6 62 8 k.arcs
      (first_off (count_block k) 7 250 2 (profile_count k)
      (first_off (plan_point_block k) 8 83 6 k.points (plan_blocks k)))

  abbrev pub matched_by : List ℕ → Network → PlanHeader → Result PlanHeader Refusal
  matched_by file n k =
      cond (eqb (length file) (512 * plan_blocks k))
      (cond (ltb (off_plan k) (plan_blocks k)) (refused 16 (off_plan k))
      (plan.planned_rules k (plan_judged n (decode_plan file))))
      (refused 15 0)

  abbrev pub planned_by : Header → Network → List ℕ → Result PlanHeader Refusal
  planned_by h n file =
      cond (bad_length most_plan_bytes (length file)) (refused 11 0)
      (first_rung (refused 12) (length file / 512) (λ b. not (check b))
      (cond (form 0 5 1 28 && eqb (le16 file 22) 0)
      (cond (plan.matching h (border_count (partition_of n)) (plan_header_at file))
      (matched_by file n (plan_header_at file))
      (refused 14 0))
      (refused 13 0)))

header_by : (file : List ℕ) (m : Option Header)
    → network.validated_header file m ≡ headed_by (good file) (formed file) file m
unfolding network.validated_length network.validated_form network.first_unformed unformed_or
header_by file (Some h) = refl
header_by file None = refl

validated_by_lem : (file : List ℕ) → network.validated file ≡ validated_by (good file) (formed file) file
unfolding network.validated network.validated_first
validated_by_lem file = rw (header_by file (network.made_at file))

planned_by_lem : (h : Header) (n : Network) (file : List ℕ)
    → plan.planned h n file ≡ planned_by (good file) (formed file) h n file
unfolding plan.planned plan.planned_first plan.first_formed plan.planned_header plan.planned_length
    plan.planned_form plan.first_unformed unformed_or
planned_by_lem h n file = refl

-- by the quick tests
abbrev pub quick_validated : List ℕ → Result Header Refusal
quick_validated file = validated_by (quick_good file) (quick_formed file) file

abbrev pub quick_planned : Header → Network → List ℕ → Result PlanHeader Refusal
quick_planned h n file = planned_by (quick_good file) (quick_formed file) h n file

pub validated_quick : (file : List ℕ) → network.validated file ≡ quick_validated file
validated_quick file =
    validated_by_lem file
    ∙ (λ i. validated_by (λ b. good_quick file b i) (λ b k e u. formed_quick file b k e u i) file)

pub planned_quick : (h : Header) (n : Network) (file : List ℕ) → plan.planned h n file ≡ quick_planned h n file
planned_quick h n file =
    planned_by_lem h n file
    ∙ (λ i. planned_by (λ b. good_quick file b i) (λ b k e u. formed_quick file b k e u i) h n file)
