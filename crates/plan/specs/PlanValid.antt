-- What a plan file that validation lets pass is, block by block and rule by rule: `ValidPlan`, and that this
-- is exactly what is let pass (`plan_exactly`). Nothing of the file is left out: its length, every sum, every
-- block's form, the header and the tables.
use mathlib.Core.{Path.◌≡◌, Path.refl, Path.◌∙◌, Path.ap, Path.subst, Logic.◌↔◌, List.List}
use Rattle.file_refusals.specs.Refusal.{refused}
use Rattle.std.specs.Prelude.{true, false, ℕ, ◌+◌, ◌*◌, ◌/◌, ◌≤◌, ◌<◌, Result, Ok, Err, ⊤}
use Rattle.std.proofs.Math.Bool.{not, and-eq-true_iff}
use Rattle.std.proofs.Common.{arith}
use lib.{ListN.length, Dec.ltb, Dec.eqb}
use borrow.Author.Tests.{ltb-false, eqb-true, not-false, le-ltb, eq-eqb}
use Rattle.theory_loops.specs.Pick.{first_rung, passed_by_lem, reached_by, rung_passed, rung_clear}
use Rattle.file_fields.specs.{Fields.le16, Sum.good, Block.block_size}
use Rattle.file_blocks.specs.Laid.{laid_by}
use Rattle.file_forms.specs.Read.{bad}
use Rattle.file_blocks.specs.Kind.{flag_kind, flag_per, flag_size, count_kind, count_per, count_size}
use Rattle.file_blocks.specs.Kind.{profile_point_kind, profile_point_per, profile_point_size, plan_kind, plan_size}
use Rattle.file_forms.specs.Form.{formed, RunFormed, bad_length, formed_past, past_formed, fine_length}
use Rattle.network.specs.declared.header.Header.{Header}
use Rattle.network.specs.{Network.Network, Network.nodes, Network.arcs, Town.partition_of, Decode.decode}
use Rattle.network.specs.Valid.{ValidFile}
use Rattle.network.proofs.Valid.{within_file}
use Rattle.plan.specs.declared.header.{PlanHeader.PlanHeader, PlanLayout.PlanLayout}
use Rattle.plan.specs.{PlanLimits.most_plan_bytes, Border.border_count, PlanLayout.plan_few}
use Rattle.plan.specs.{PlanHeader.plan_header_at, PlanHeader.PlanWithin}
use Rattle.plan.specs.PlanLayout.{profile_count, count_block, plan_point_block, plan_blocks, plan_layout_of}
use Rattle.plan.specs.PlanDecode.{decode_plan, PlanLaid}
use Rattle.plan.specs.PlanRules.{profiles, plan_judged}
use Rattle.plan.specs.WellFormed.{WellFormed, well_formed_exactly}
use Rattle.plan.specs.PlanValidate.{first_unformed, planned_rules, planned_form, planned_length, matching}
use Rattle.plan.specs.PlanValidate.{planned_header, first_formed, planned_first, planned}
use Rattle.plan.specs.PlanMatch.{Matches, matching_matches, matches_matching, matches_within}
use Rattle.file_refusals.specs.declared.Refusal.{Refusal}
use Rattle.plan.specs.PlanMatch.{borders_few, valid_headed}

-- a plan file with header k, for a network n with header h
pub record ValidPlan (h : Header) (n : Network) (file : List ℕ) (k : PlanHeader) : Type 0 where
  pub is : k ≡ plan_header_at file
  pub matches : Matches h (border_count (partition_of n)) k
  pub long : length file ≡ block_size * plan_blocks k
  pub sums : (b : ℕ) → b < plan_blocks k → good file b ≡ true
  pub first_formed_lem : formed file 0 plan_kind 1 (8 + plan_size) ≡ true
  pub bits_zero : le16 file 22 ≡ 0
  pub flags_formed : RunFormed file 1 flag_kind flag_per flag_size k.arcs
  pub counts_formed : RunFormed file (count_block k) count_kind count_per count_size (profile_count k)
  pub points_formed : RunFormed file (plan_point_block k) profile_point_kind profile_point_per profile_point_size
      k.points
  pub well_formed_lem : WellFormed n (decode_plan file)

-- the layout of a plan for a network has the network's numbers
pub record PlanFor (n : Network) (l : PlanLayout) : Type 0 where
  pub period : l.period ≡ n.period
  pub nodes_are : l.nodes ≡ nodes n
  pub arcs_are : l.arcs ≡ arcs n
  pub cells : l.cells ≡ n.cells
  pub borders_are : l.borders ≡ border_count (partition_of n)
  pub profiles_are : l.profiles ≡ profiles n

-- such a file is within the limits, laid out as its header says, and for the network
module _ {network : List ℕ} {h : Header} (v : ValidFile network h) {file : List ℕ} {k : PlanHeader}
    (w : ValidPlan h (decode network) file k) where
  pub valid_within : PlanWithin k
  valid_within =
      matches_within h (border_count (partition_of (decode network))) k v.within
      (omega (arith, (valid_headed v).nodes_are, borders_few (partition_of (decode network)))) w.matches

  pub valid_plan_laid : PlanLaid file (plan_layout_of k)
  valid_plan_laid = laid_by w.is refl valid_within w.long

  pub valid_for : PlanFor (decode network) (plan_layout_of k)
  unfolding plan_layout_of
  valid_for =
      let d = valid_headed v in
      let m = w.matches in
      record {
        period = m.period ∙ d.period;
        nodes_are = m.nodes ∙ d.nodes_are;
        arcs_are = m.arcs ∙ d.arcs_are;
        cells = m.cells ∙ d.cells;
        borders_are = m.borders_are;
        profiles_are = rw (m.borders_are, m.nodes, d.nodes_are);
      }

-- no refusal is well-formed
not_well : (number place : ℕ) (k : PlanHeader) → refused number place ≡ Ok k → ⊥
not_well number place k e = let z : ◌≡◌ {A = ℕ} 0 1 = cc in omega arith

rules_passed : (k m : PlanHeader) (j : Result ⊤ Refusal) → planned_rules m j ≡ Ok k
    → (j ≡ Ok tt) × (m ≡ k)
rules_passed k m (Ok _) e = (refl, (cc))
rules_passed k m (Err r) e = let z : ◌≡◌ {A = ℕ} 0 1 = cc in absurd (omega arith)

-- the runs are in their form where no block out of it is found before the end
module _ (file : List ℕ) (k : PlanHeader) where
  record RunsFormed : Type 0 where
    flags_formed : RunFormed file 1 flag_kind flag_per flag_size k.arcs
    counts_formed : RunFormed file (count_block k) count_kind count_per count_size (profile_count k)
    points_formed : RunFormed file (plan_point_block k) profile_point_kind profile_point_per profile_point_size
        k.points

  all_formed : plan_blocks k ≤ first_unformed file k → RunsFormed
  unfolding first_unformed
  all_formed l =
      let x = first_unformed file k in
      let (f, e₁) = formed_past file 1 flag_kind flag_per flag_size k.arcs _ x (omega arith) refl in
      let (c, e₂) = formed_past file (count_block k) count_kind count_per count_size (profile_count k) _ x
      (omega arith) e₁ in
      let (p, _) = formed_past file (plan_point_block k) profile_point_kind profile_point_per profile_point_size
      k.points _ x (omega arith) e₂ in
      record { flags_formed = f; counts_formed = c; points_formed = p }

  formed_all : RunsFormed → first_unformed file k ≡ plan_blocks k
  unfolding first_unformed
  formed_all f =
      past_formed file 1 flag_kind flag_per flag_size k.arcs _ f.flags_formed
      ∙ past_formed file (count_block k) count_kind count_per count_size (profile_count k) _ f.counts_formed
      ∙ past_formed file (plan_point_block k) profile_point_kind profile_point_per profile_point_size k.points _
      f.points_formed

module _ (h : Header) (n : Network) (file : List ℕ) (k : PlanHeader) where
  planned_valid : planned h n file ≡ Ok k → ValidPlan h n file k
  unfolding planned planned_first first_formed planned_header planned_length planned_form
  planned_valid e =
      let m = plan_header_at file in
      let j = plan_judged n (decode_plan file) in
      let x = Ok k in
      let (_, e₁) =
      passed_by_lem (bad_length most_plan_bytes (length file)) (refused 11 0)
      (first_rung (refused 12) (length file / block_size) (bad file) (planned_first h n file)) x
      (not_well 11 0 k) e in
      let (s, e₂) =
      rung_passed (refused 12) (length file / block_size) (bad file) (planned_first h n file) x
      (λ i _. not_well 12 i k) e₁ in
      let (f, e₃) =
      reached_by (first_formed file) (planned_header h n file) (refused 13 0) x (not_well 13 0 k) e₂ in
      let (o, e₄) =
      reached_by (matching h (border_count (partition_of n)) m) (planned_length file m j) (refused 14 0) x
      (not_well 14 0 k) e₃ in
      let (l, e₅) =
      reached_by (eqb (length file) (block_size * plan_blocks m)) (planned_form file m j) (refused 15 0) x
      (not_well 15 0 k) e₄ in
      let (u, e₆) =
      passed_by_lem (ltb (first_unformed file m) (plan_blocks m)) (refused 16 (first_unformed file m))
      (planned_rules m j) x (not_well 16 (first_unformed file m) k) e₅ in
      let (w, q) = rules_passed k m j e₆ in
      let (d, z) = (and-eq-true_iff (formed file 0 plan_kind 1 (8 + plan_size)) (eqb (le16 file 22) 0)).0 f in
      let g = all_formed file m (ltb-false _ _ u) in
      let long : length file ≡ block_size * plan_blocks m = eqb-true _ _ l in
      let v : ValidPlan h n file m = record {
        is = refl;
        matches = matching_matches h (border_count (partition_of n)) m o;
        long = long;
        sums =
            λ b (a : b < plan_blocks m). not-false _ (s b (within_file b (plan_blocks m) (length file) long a));
        first_formed_lem = d;
        bits_zero = eqb-true _ _ z;
        flags_formed = g.flags_formed;
        counts_formed = g.counts_formed;
        points_formed = g.points_formed;
        well_formed_lem = (well_formed_exactly n (decode_plan file)).0 w;
      } in
      subst (λ (x : PlanHeader). ValidPlan h n file x) q v

module _ {network : List ℕ} {h : Header} (v : ValidFile network h) (file : List ℕ) (k : PlanHeader) where
  module _ (w : ValidPlan h (decode network) file k) where
    length_passed : bad_length most_plan_bytes (length file) ≡ false
    length_passed = fine_length _ _ _ w.long (omega arith) (omega (arith, plan_few (valid_within v w)))

    first_passed : first_formed file ≡ true
    unfolding first_formed
    first_passed = rw (w.first_formed_lem, eq-eqb (le16 file 22) 0 w.bits_zero)

    form_passed : planned_form file k (plan_judged (decode network) (decode_plan file)) ≡ Ok k
    unfolding planned_form
    form_passed =
        let f : RunsFormed file k = record {
          flags_formed = w.flags_formed;
          counts_formed = w.counts_formed;
          points_formed = w.points_formed;
        } in
        rw (
          formed_all file k f,
          le-ltb (plan_blocks k) (plan_blocks k) (omega arith),
          (well_formed_exactly (decode network) (decode_plan file)).1 w.well_formed_lem,
        )

    long_passed : planned_length file k (plan_judged (decode network) (decode_plan file)) ≡ Ok k
    unfolding planned_length
    long_passed = rw (eq-eqb (length file) (block_size * plan_blocks k) w.long) form_passed

    header_passed : planned_header h (decode network) file ≡ Ok k
    unfolding planned_header
    header_passed =
        rw (
          ← w.is,
          matches_matching h (border_count (partition_of (decode network))) k w.matches,
        ) long_passed

    valid_planned : planned h (decode network) file ≡ Ok k
    unfolding planned planned_first
    valid_planned =
        rw length_passed
        (rung_clear (refused 12) (length file / block_size) (bad file) _
        (λ b l. ap not (w.sums b (omega (arith, w.long))))
        ∙ rw first_passed header_passed)

  pub plan_exactly : (planned h (decode network) file ≡ Ok k)
      ↔ ValidPlan h (decode network) file k
  plan_exactly = (planned_valid h (decode network) file k, valid_planned)
