-- Validation of a plan file against a network, refusals 11 to 19 in the order of document 01: the length,
-- every block's check, the first block's form, the header's numbers, the length again, the later blocks'
-- forms, and the rules of the tables. Every whole block is summed before the header is looked at.
use mathlib.Core.{Path.◌≡◌, Path.sym, Path.◌∙◌, Path.ap, List.List}
use Rattle.std.specs.Prelude.{Bool, true, false, cond, ◌&&◌, ℕ, ◌+◌, ◌*◌, ◌/◌, ◌≤◌, ◌<◌, Result, Ok, Err, ⊤}
use Rattle.std.proofs.Common.{arith}
use lib.{ListN.length, Dec.leb, Dec.ltb, Dec.eqb}
use borrow.Author.Tests.{lt-ltb, le-ltb, eq-eqb, ne_eqb}
use Rattle.theory_loops.specs.Pick.{first_rung}
use Rattle.file_fields.specs.{Fields.le16, Block.block_size}
use Rattle.file_blocks.specs.Kind.{flag_kind, flag_per, flag_size, count_kind, count_per, count_size}
use Rattle.file_blocks.specs.Kind.{profile_point_kind, profile_point_per, profile_point_size, plan_kind, plan_size}
use Rattle.file_blocks.specs.{Place.blocks, Laid.laid_by}
use Rattle.file_forms.specs.Read.{bad}
use Rattle.file_forms.specs.Form.{formed, unformed_or, bad_length, run_taken, run_passed, run_last}
use Rattle.file_refusals.specs.declared.{Refusal.Refusal}
use Rattle.network.specs.declared.header.Header.{Header}
use Rattle.network.specs.{Network.Network, Town.partition_of}
use Rattle.file_refusals.specs.Refusal.{refused}
use Rattle.plan.specs.declared.header.{PlanHeader.PlanHeader, PlanLayout.PlanLayout}
use Rattle.plan.specs.PlanLimits.{most_profile_points, most_plan_blocks, most_plan_bytes}
use Rattle.plan.specs.{Border.border_count, Plan.Plan, PlanHeader.plan_header_at, PlanHeader.PlanWithin}
use Rattle.plan.specs.PlanLayout.{profile_count, count_block, plan_point_block, plan_blocks, plan_layout_of}
use Rattle.plan.specs.{PlanLayout.plan_few, PlanDecode.counts_stored, PlanDecode.points_stored}
use Rattle.plan.specs.PlanDecode.{decode_plan, PlanLaid, laid_plan, flags_stored}
use Rattle.plan.specs.PlanRules.{judged_flags, judged_by, plan_judged}

-- 17 to 19
abbrev pub planned_rules : PlanHeader → Result ⊤ Refusal → Result PlanHeader Refusal
planned_rules k (Ok _) = Ok k
planned_rules k (Err r) = Err r

-- the first block after the header that is out of its form, by its number, or the count of blocks
unfoldable pub first_unformed : List ℕ → PlanHeader → ℕ
first_unformed file k =
    unformed_or file 1 flag_kind flag_per flag_size k.arcs
    (unformed_or file (count_block k) count_kind count_per count_size (profile_count k)
    (unformed_or file (plan_point_block k) profile_point_kind profile_point_per profile_point_size k.points
    (plan_blocks k)))

-- 16: that block; else what the rules say, which is j
unfoldable pub planned_form : List ℕ → PlanHeader → Result ⊤ Refusal → Result PlanHeader Refusal
planned_form file k j =
    cond (ltb (first_unformed file k) (plan_blocks k)) (refused 16 (first_unformed file k)) (planned_rules k j)

-- 15: another length than the header calls for
unfoldable pub planned_length : List ℕ → PlanHeader → Result ⊤ Refusal → Result PlanHeader Refusal
planned_length file k j =
    cond (eqb (length file) (block_size * plan_blocks k)) (planned_form file k j) (refused 15 0)

-- 14: the numbers of the network, its border count, and not too many points
unfoldable pub matching : Header → ℕ → PlanHeader → Bool
matching h borders k =
    eqb k.number h.number
    &&
    (eqb k.period h.period && (eqb k.nodes h.nodes && (eqb k.arcs h.arcs &&
    (eqb k.cells h.cells && (eqb k.borders borders && leb k.points most_profile_points)))))

unfoldable pub planned_header : Header → Network → List ℕ → Result PlanHeader Refusal
planned_header h n file =
    cond (matching h (border_count (partition_of n)) (plan_header_at file))
    (planned_length file (plan_header_at file) (plan_judged n (decode_plan file)))
    (refused 14 0)

-- 13: the first block is of kind 5, with one entry of 20 bytes, of which bytes 22 and 23 are fill
unfoldable pub first_formed : List ℕ → Bool
first_formed file = formed file 0 plan_kind 1 (8 + plan_size) && eqb (le16 file 22) 0

unfoldable pub planned_first : Header → Network → List ℕ → Result PlanHeader Refusal
planned_first h n file = cond (first_formed file) (planned_header h n file) (refused 13 0)

-- 11: no block, a part of a block, or more than 13,718 blocks; 12: a block's check is wrong
unfoldable pub planned : Header → Network → List ℕ → Result PlanHeader Refusal
planned h n file =
    cond (bad_length most_plan_bytes (length file)) (refused 11 0)
    (first_rung (refused 12) (length file / block_size) (bad file)
    (planned_first h n file))

-- FOR CODE that has looked at the first block's form: it decides, or leaves the answer to the zero bits
module _ (file : List ℕ) (t : Bool) (e : t ≡ formed file 0 plan_kind 1 (8 + plan_size)) where
  pub form_decides : t ≡ false → t ≡ first_formed file
  unfolding first_formed
  form_decides f = rw (← e, f)

  pub bits_decide : (x : ℕ) → t ≡ true → x ≡ le16 file 22 → eqb x 0 ≡ first_formed file
  unfolding first_formed
  bits_decide x f g = rw (← e, f, ← g)

-- FOR CODE on a plan that is laid out as its header says: where each run ends, and the first block out of
-- its form
module _ {file : List ℕ} {l : PlanLayout} (s : PlanLaid file l) where
  pub flags_end : l.countblock ≡ 1 + blocks flag_per l.arcs
  flags_end = omega (arith, laid_plan s)

  pub counts_end : l.pointblock ≡ l.countblock + blocks count_per l.profiles
  counts_end = omega (arith, laid_plan s)

  pub points_end : l.blocks ≡ l.pointblock + blocks profile_point_per l.points
  points_end = omega (arith, laid_plan s)

  pub unformed_told : (r : ℕ) → r ≡ unformed_or file 1 flag_kind flag_per flag_size l.arcs
      (unformed_or file l.countblock count_kind count_per count_size l.profiles
      (unformed_or file l.pointblock profile_point_kind profile_point_per profile_point_size l.points
      l.blocks))
      → r ≡ first_unformed file (plan_header_at file)
  unfolding first_unformed plan_layout_of
  unformed_told r e = rw s.is at e

-- for `search forms` where that block is looked for
pub ruleset forms = (
  flags_stored,
  counts_stored,
  points_stored,
  flags_end,
  counts_end,
  points_end,
  unformed_told,
  run_taken,
  run_passed,
  run_last,
)

-- FOR THE LADDER
module _ {file : List ℕ} {l : PlanLayout} (s : PlanLaid file l) (k : PlanHeader) (e : k ≡ plan_header_at file)
    (b : ℕ) (r : Result PlanHeader Refusal) (f : b ≡ first_unformed file (plan_header_at file)) where
  is : l ≡ plan_layout_of k
  is = s.is ∙ ap plan_layout_of (sym e)

  all : l.blocks ≡ plan_blocks k
  unfolding plan_layout_of
  all = ap (λ (l : PlanLayout). l.blocks) is

  judges : (p : Plan) → judged_flags l.arcs l.cells l.period l.profiles p ≡ judged_by k p
  unfolding plan_layout_of
  judges p = ap (λ (l : PlanLayout). judged_flags l.arcs l.cells l.period l.profiles p) is

  found : b ≡ first_unformed file k
  found = f ∙ ap (first_unformed file) (sym e)

  pub form_taken : (j : Result ⊤ Refusal) → b < l.blocks → r ≡ refused 16 b → r ≡ planned_form file k j
  unfolding planned_form
  form_taken j m g = rw (← found, lt-ltb b (plan_blocks k) (rw all at m)) g

  pub form_passed : (p : Plan) → l.blocks ≤ b
      → r ≡ planned_rules k (judged_flags l.arcs l.cells l.period l.profiles p)
      → r ≡ planned_form file k (judged_by k p)
  unfolding planned_form
  form_passed p m g =
      rw (← found, le-ltb b (plan_blocks k) (rw all at m)) (g ∙ ap (planned_rules k) (judges p))

-- a file of the length that its header calls for is laid out
module _ (file : List ℕ) (k : PlanHeader) (l : PlanLayout) (e : l ≡ plan_layout_of k) where
  pub length_passed : (j : Result ⊤ Refusal) (r : Result PlanHeader Refusal) → length file ≡ block_size * l.blocks
      → r ≡ planned_form file k j → r ≡ planned_length file k j
  unfolding planned_length plan_layout_of
  length_passed j r f g = rw (eq-eqb (length file) (block_size * plan_blocks k) (rw e at f)) g

  pub length_taken : (j : Result ⊤ Refusal) (r : Result PlanHeader Refusal) → (length file ≡ block_size * l.blocks → ⊥)
      → r ≡ refused 15 0 → r ≡ planned_length file k j
  unfolding planned_length plan_layout_of
  length_taken j r f g = rw (ne_eqb (length file) (block_size * plan_blocks k) (rw e at f)) g

  pub now_laid : PlanWithin k → k ≡ plan_header_at file → length file ≡ block_size * l.blocks → PlanLaid file l
  unfolding plan_layout_of
  now_laid w d f = laid_by d e w (rw e at f)

  pub blocks_few : PlanWithin k → l.blocks ≤ most_plan_blocks
  unfolding plan_layout_of
  blocks_few w = rw e (plan_few w)
