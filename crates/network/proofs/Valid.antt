-- What a file that validation lets pass is, block by block and rule by rule: `ValidFile`, and that this is
-- exactly what is let pass (`valid_exactly`). Nothing of the file is left out: its length, every sum, every
-- block's form, the header and the tables.
use mathlib.Core.{Path.◌≡◌, Path.refl, Path.◌∙◌, Path.ap, Path.subst, Logic.◌↔◌, List.List}
use Rattle.file_refusals.specs.Apart.{not_both}
use Rattle.file_refusals.specs.Refusal.{refusal, refused}
use Rattle.std.specs.Prelude.{false, ℕ, ◌+◌, ◌*◌, ◌/◌, ◌≤◌, ◌<◌, Result, Ok, Err, Option, Some, None, ⊤}
use Rattle.std.proofs.Math.Bool.{not}
use Rattle.std.proofs.Common.{arith}
use lib.{ListN.length, Dec.ltb, Dec.eqb}
use borrow.Author.Tests.{ltb-false, eqb-true, not-false, le-ltb, eq-eqb}
use Rattle.theory_loops.specs.Pick.{first_rung, passed_by_lem, reached_by, rung_passed, rung_clear}
use Rattle.file_blocks.specs.{Laid.laid_by, Kind.point_per}
use Rattle.file_forms.specs.Read.{bad}
use Rattle.file_fields.specs.{Block.block_size, Block.head_size}
use Rattle.file_forms.specs.Form.{formed, RunFormed, bad_length, formed_past, past_formed, fine_length}
use Rattle.network.specs.declared.header.{Header.Header}
use Rattle.network.specs.{Limits.within_made, Rules.judged}
use Rattle.network.specs.Layout.{arc_block, point_block, all_blocks, layout_of, most_bytes}
use Rattle.network.specs.Decode.{decode, Laid}
use Rattle.network.proofs.Sound.{sound_exactly}
use Rattle.network.specs.Validate.{first_unformed}
use Rattle.network.specs.Validate.{validated_rules, validated_form, validated_length, validated_header}
use Rattle.network.specs.Validate.{made_at, validated_first, validated, header_within, header_is}
use Rattle.file_blocks.specs.Kind.{network_kind, network_size, arc_kind, arc_size, arc_per, point_kind, point_size}
use Rattle.network.specs.Node.{node_kind, node_size, node_per, node_blocks, node_blocks_most}
use Rattle.file_refusals.specs.declared.Refusal.{Refusal}
use Rattle.network.specs.Valid.{ValidFile}

-- such a file is laid out as its header says
pub valid_laid : {file : List ℕ} {h : Header} → ValidFile file h → Laid file (layout_of h)
valid_laid v = laid_by v.is refl v.within v.long

-- no refusal opens
rules_passed : (h k : Header) (j : Result ⊤ Refusal) → validated_rules k j ≡ Ok h → (j ≡ Ok tt) × (k ≡ h)
rules_passed h k (Ok _) e = (refl, (cc))
rules_passed h k (Err r) e = let z : ◌≡◌ {A = ℕ} 0 1 = cc in absurd (omega arith)

header_passed : (file : List ℕ) (h : Header) (m : Option Header) → validated_header file m ≡ Ok h
    → (k : Header) × (m ≡ Some k) × (validated_length file k ≡ Ok h)
header_passed file h (Some k) e = (k, refl, e)
header_passed file h None e = not_both (refusal 4 0) h e

-- the runs are in their form where no block out of it is found before the end
module _ (file : List ℕ) (h : Header) where
  record RunsFormed : Type 0 where
    nodes_formed : RunFormed file 1 (node_kind h.hours) (node_per h.hours) (node_size h.hours)
        h.nodes
    arcs_formed : RunFormed file (arc_block h) arc_kind arc_per arc_size h.arcs
    points_formed : RunFormed file (point_block h) point_kind point_per point_size h.points

  all_formed : all_blocks h ≤ first_unformed file h → RunsFormed
  unfolding first_unformed node_blocks
  all_formed l =
      let x = first_unformed file h in
      let (n, e) = formed_past file 1 (node_kind h.hours) (node_per h.hours) (node_size h.hours)
      h.nodes _ x (omega arith) refl in
      let (a, f) = formed_past file (arc_block h) arc_kind arc_per arc_size h.arcs _ x (omega arith) e in
      let (p, g) = formed_past file (point_block h) point_kind point_per point_size h.points _ x (omega arith)
      f in
      record { nodes_formed = n; arcs_formed = a; points_formed = p }

  formed_all : RunsFormed → first_unformed file h ≡ all_blocks h
  unfolding first_unformed node_blocks
  formed_all f =
      past_formed file 1 (node_kind h.hours) (node_per h.hours) (node_size h.hours) h.nodes _
      f.nodes_formed
      ∙ past_formed file (arc_block h) arc_kind arc_per arc_size h.arcs _ f.arcs_formed
      ∙ past_formed file (point_block h) point_kind point_per point_size h.points _ f.points_formed

pub within_file : (b n long : ℕ) → long ≡ block_size * n → b < n → b < long / block_size
within_file b n long e l = omega arith

module _ (file : List ℕ) (h : Header) where
  validated_valid : validated file ≡ Ok h → ValidFile file h
  unfolding validated validated_first validated_length validated_form
  validated_valid e =
      let (_, e₁) = passed_by_lem (bad_length most_bytes (length file)) (refused 1 0)
      (first_rung (refused 2) (length file / block_size) (bad file) (validated_first file)) (Ok h)
      (not_both (refusal 1 0) h) e in
      let (s, e₂) = rung_passed (refused 2) (length file / block_size) (bad file) (validated_first file)
      (Ok h) (λ i _. not_both (refusal 2 i) h) e₁ in
      let (f, e₃) = reached_by (formed file 0 network_kind 1 (head_size + network_size))
      (validated_header file (made_at file)) (refused 3 0) (Ok h) (not_both (refusal 3 0) h) e₂ in
      let (k, m, e₄) = header_passed file h (made_at file) e₃ in
      let (l, e₅) = reached_by (eqb (length file) (block_size * all_blocks k)) (validated_form file k)
      (refused 5 0) (Ok h) (not_both (refusal 5 0) h) e₄ in
      let (n, e₆) = passed_by_lem (ltb (first_unformed file k) (all_blocks k)) (refused 6 (first_unformed file k))
      (validated_rules k (judged (decode file))) (Ok h) (not_both (refusal 6 (first_unformed file k)) h) e₅ in
      let (j, q) = rules_passed h k (judged (decode file)) e₆ in
      let g = all_formed file k (ltb-false _ _ n) in
      let long : length file ≡ block_size * all_blocks k = eqb-true _ _ l in
      let v : ValidFile file k = record {
        is = header_is file (made_at file) k refl m;
        within = header_within file (made_at file) k refl m;
        long = long;
        sums = λ b (o : b < all_blocks k). not-false _
            (s b (within_file b (all_blocks k) (length file) long o));
        first_formed_lem = f;
        nodes_formed = g.nodes_formed;
        arcs_formed = g.arcs_formed;
        points_formed = g.points_formed;
        sound = (sound_exactly (decode file)).0 j;
      } in
      subst (λ (x : Header). ValidFile file x) q v

  module _ (v : ValidFile file h) where
    length_passed : bad_length most_bytes (length file) ≡ false
    length_passed = fine_length _ _ _ v.long (omega arith)
        (omega (arith, v.within, node_blocks_most h.hours v.within.nodes_most))

    made_inside : made_at file ≡ Some h
    made_inside = rw v.is (within_made _ _ _ _ _ _ _ (rw v.is at v.within))

    form_passed : validated_form file h ≡ Ok h
    unfolding validated_form
    form_passed =
        let f : RunsFormed file h =
        record {
          nodes_formed = v.nodes_formed;
          arcs_formed = v.arcs_formed;
          points_formed = v.points_formed;
        } in
        rw (
          formed_all file h f,
          le-ltb (all_blocks h) (all_blocks h) (omega arith),
          (sound_exactly (decode file)).1 v.sound,
        )

    valid_validated : validated file ≡ Ok h
    unfolding validated validated_first validated_length
    valid_validated =
        rw (length_passed)
        (rung_clear (refused 2) (length file / block_size) (bad file) _
        (λ b l. ap not (v.sums b (omega (arith, v.long))))
        ∙ rw (v.first_formed_lem, made_inside, eq-eqb (length file) (block_size * all_blocks h) v.long)
        form_passed)

pub valid_exactly : (file : List ℕ) (h : Header) → (validated file ≡ Ok h) ↔ ValidFile file h
valid_exactly file h = (validated_valid file h, valid_validated file h)
