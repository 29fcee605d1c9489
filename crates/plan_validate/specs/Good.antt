-- A plan file that is laid out as its header says, and is well-formed, part by part as code asks for it: the
-- blocks before the points, the flag words, and the points with their counts (`Risen` of `plan_rising`).
use mathlib.Core.{Path.◌≡◌, Path.refl, Path.sym, Path.◌∙◌, Path.ap, Bool.true, Bool.and-eq-true_iff}
use Rattle.file_refusals.specs.Refusal.{refused}
use Rattle.std.specs.Prelude.{List, ℕ, ◌+◌, ◌≤◌, leb, eqb, Ok}
use Rattle.std.proofs.Common.{arith}
use borrow.Author.Tests.{leb-true, eqb-true}
use Rattle.theory_loops.specs.{First.first, First.first_le, First.clear, Pick.rung_clear}
use Rattle.file_fields.specs.Fields.{le16}
use Rattle.file_blocks.specs.Kind.{flag_kind, flag_per, flag_size, count_kind, count_per, count_size}
use Rattle.file_blocks.specs.Kind.{profile_point_kind, profile_point_per, profile_point_size, plan_kind, plan_size}
use Rattle.file_blocks.specs.Place.{blocks}
use Rattle.file_forms.specs.Form.{formed, unformed, RunFormed, run_formed_lem}
use Rattle.file_forms.specs.{Read.bad, SoundBlock.sound_formed, SoundBlock.sound_sums}
use Rattle.network.specs.declared.header.Header.{Header}
use Rattle.network.specs.{Decode.decode, Town.partition_of, Valid.ValidFile}
use Rattle.plan.specs.declared.header.{PlanHeader.PlanHeader, PlanLayout.PlanLayout}
use Rattle.plan.specs.{Border.border_count, PlanHeader.plan_header_at, PlanLayout.plan_layout_of}
use Rattle.plan.specs.{PlanDecode.decode_plan, PlanDecode.PlanLaid, PlanDecode.laid_plan, PlanValid.ValidPlan}
use Rattle.plan.specs.PlanRules.{bad_flags, judged_flags, judged_by}
use Rattle.plan.specs.PlanValidate.{first_formed, matching, flags_end, counts_end, points_end}
use Rattle.plan.specs.PlanMatch.{Matches, matching_matches, judged_same, valid_headed}
use Rattle.plan.specs.WellFormed.{well_formed_exactly}
use Rattle.plan_rising.specs.Rising.{Risen}

-- the blocks before the points have right checks, and those after the first their form
pub record SoundFront (file : List ℕ) (l : PlanLayout) : Type 0 where
  pub sums : first l.pointblock (bad file) ≡ l.pointblock
  pub flags_formed : RunFormed file 1 flag_kind flag_per flag_size l.arcs
  pub counts_formed : RunFormed file l.countblock count_kind count_per count_size l.profiles

-- all checks are right, all blocks after the first in their form, and the rules kept
pub record SoundPlan (file : List ℕ) (l : PlanLayout) : Type 0 where
  pub front : SoundFront file l
  pub flags_below : first l.arcs (bad_flags l.cells (decode_plan file)) ≡ l.arcs
  pub risen : Risen file l

module _ {file : List ℕ} {l : PlanLayout} (s : PlanLaid file l) where
  -- FOR CODE that has asked for the first fault of each kind
  pub front_sound : (b i j : ℕ) → b ≡ first l.pointblock (bad file) → l.pointblock ≤ b
      → i ≡ 1 + first (blocks flag_per l.arcs) (unformed file 1 flag_kind flag_per flag_size l.arcs)
      → l.countblock ≤ i
      → j ≡ l.countblock + first (blocks count_per l.profiles)
      (unformed file l.countblock count_kind count_per count_size l.profiles)
      → leb l.pointblock j ≡ true → SoundFront file l
  front_sound b i j e f g h m n = record {
    sums = omega (arith, e, first_le (bad file) l.pointblock);
    flags_formed = run_formed_lem _ _ _ _ _ _ i l.countblock g (flags_end s) h;
    counts_formed =
        run_formed_lem _ _ _ _ _ _ j l.pointblock m (counts_end s) (leb-true l.pointblock j n);
  }

  pub plan_sound : (a : ℕ) → SoundFront file l → a ≡ first l.arcs (bad_flags l.cells (decode_plan file))
      → l.arcs ≤ a → Risen file l → SoundPlan file l
  plan_sound a f e h r = record {
    front = f;
    flags_below = omega (arith, e, first_le (bad_flags l.cells (decode_plan file)) l.arcs);
    risen = r;
  }

  -- the rules judge it sound
  judged : SoundPlan file l → judged_by (plan_header_at file) (decode_plan file) ≡ Ok tt
  unfolding plan_layout_of judged_flags
  judged g =
      let p = decode_plan file in
      sym (ap (λ (l : PlanLayout). judged_flags l.arcs l.cells l.period l.profiles p) s.is)
      ∙ rung_clear (refused 17) l.arcs (bad_flags l.cells p) _ (clear _ l.arcs g.flags_below)
      ∙ sym g.risen.rules_kept

  pub sound_valid : {network : List ℕ} {h : Header} → ValidFile network h → first_formed file ≡ true
      → matching h (border_count (partition_of (decode network))) (plan_header_at file) ≡ true
      → SoundPlan file l → ValidPlan h (decode network) file (plan_header_at file)
  unfolding first_formed
  sound_valid {network} {h} v f o g =
      let k = plan_header_at file in
      let d = laid_plan s in
      let (a, z) = (and-eq-true_iff (formed file 0 plan_kind 1 (8 + plan_size)) (eqb (le16 file 22) 0)).0 f in
      let m : Matches h (border_count (partition_of (decode network))) k =
      matching_matches h (border_count (partition_of (decode network))) k o in
      let r = g.risen.blocks_sound in
      record {
        is = refl;
        matches = m;
        long = s.long;
        sums = λ b q. sound_sums file l.pointblock profile_point_kind profile_point_per profile_point_size
            l.points r g.front.sums b (omega (arith, points_end s));
        first_formed_lem = a;
        bits_zero = eqb-true _ _ z;
        flags_formed = rw d.arcs at g.front.flags_formed;
        counts_formed = rw (d.countblock, d.profiles) at g.front.counts_formed;
        points_formed = rw (d.pointblock, d.points) at
            (sound_formed file l.pointblock profile_point_kind profile_point_per profile_point_size
            l.points r);
        well_formed_lem = (well_formed_exactly (decode network) (decode_plan file)).0
            (sym (judged_same (valid_headed v) m (decode_plan file)) ∙ judged g);
      }

-- of the numbers as code has them
pub matching_at : (h : Header) {b c : ℕ} {k j : PlanHeader} → b ≡ c → k ≡ j → matching h b k ≡ true
    → matching h c j ≡ true
matching_at h e f o = rw (e, f) at o
