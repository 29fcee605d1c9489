-- The frames of a plan's file: every block with its head and zeros, and the header's entry put field by
-- field.
use mathlib.Core.{Path.◌≡◌, Path.refl, List.List}
use Rattle.std.specs.Prelude.{ℕ, ◌^◌, ◌<◌, length}
use Rattle.std.proofs.Common.{arith}
use Rattle.file_fields.specs.Put.{put, put_join}
use Rattle.file_blocks.specs.Kind.{plan_kind, plan_size, flag_kind, flag_per, count_kind, count_per}
use Rattle.file_blocks.specs.{Kind.profile_point_kind, Kind.profile_point_per, Place.blocks}
use Rattle.file_frames.specs.{Framed.Framed, Laid.none, Runs.frames_laid, Runs.header_laid}
use Rattle.plan.specs.declared.header.{PlanHeader.PlanHeader, PlanLayout.PlanLayout}
use Rattle.plan.specs.{PlanDecode.LaidPlan, PlanHeader.PlanWithin}
use Rattle.plan_encode.specs.PlanEncode.{plan_header_number, plan_header_byte, plan_shape}
use Rattle.plan_encode.specs.Places.{PlanWritable, laid_by, blocks_fit}
use Rattle.plan_encode.specs.Laying.{Laying, plan_fits}

-- the header's fields, put one behind the other, are one number
pub header_put : (k : PlanHeader) → PlanWithin k → k.number < 2 ^ 32
    → (old s₁ s₂ s₃ s₄ s₅ s₆ s₇ s₈ : List ℕ) → s₁ ≡ put 4 old 8 k.number → s₂ ≡ put 2 s₁ 12 k.period
    → s₃ ≡ put 2 s₂ 14 k.nodes → s₄ ≡ put 2 s₃ 16 k.arcs → s₅ ≡ put 2 s₄ 18 k.cells
    → s₆ ≡ put 2 s₅ 20 k.borders → s₇ ≡ put 2 s₆ 22 0 → s₈ ≡ put 4 s₇ 24 k.points
    → s₈ ≡ put plan_size old 8 (plan_header_number k)
header_put k w f old s₁ s₂ s₃ s₄ s₅ s₆ s₇ s₈ e₁ e₂ e₃ e₄ e₅ e₆ e₇ e₈ =
    put_join 4 16 old s₁ s₈ 8 k.number _ f e₁
    (put_join 2 14 s₁ s₂ s₈ 12 k.period _ (omega (arith, w)) e₂
    (put_join 2 12 s₂ s₃ s₈ 14 k.nodes _ (omega (arith, w)) e₃
    (put_join 2 10 s₃ s₄ s₈ 16 k.arcs _ (omega (arith, w)) e₄
    (put_join 2 8 s₄ s₅ s₈ 18 k.cells _ (omega (arith, w)) e₅
    (put_join 2 6 s₅ s₆ s₈ 20 k.borders _ (omega (arith, w)) e₆
    (put_join 2 4 s₆ s₇ s₈ 22 0 k.points (omega arith) e₇ e₈))))))

-- frames of all runs and the header's entry: no entry of the three runs is in
module _ {k : PlanHeader} {l : PlanLayout} (old s₁ s₂ s₃ s₄ t : List ℕ)
    (w : PlanWritable k l (length old)) where
  abbrev at : LaidPlan k l
  at = laid_by w

  pub framed : Framed plan_kind 1 1 0 (blocks 1 1) old s₁
      → Framed flag_kind flag_per l.arcs 1 (blocks flag_per l.arcs) s₁ s₂
      → Framed count_kind count_per l.profiles l.countblock (blocks count_per l.profiles) s₂ s₃
      → Framed profile_point_kind profile_point_per l.points l.pointblock
      (blocks profile_point_per l.points) s₃ s₄
      → t ≡ put plan_size s₄ 8 (plan_header_number k) → Laying k none none none old t
  unfolding plan_header_byte
  framed h f c p e =
      header_laid (plan_shape k) (plan_fits k) (λ _. plan_header_byte k) none none none old s₄ t
      (blocks_fit w) (plan_header_number k)
      (frames_laid (plan_shape k) old s₁ s₂ s₃ s₄ h (rw at.arcs at f)
      (rw (at.profiles, at.countblock) at c) (rw (at.points, at.pointblock) at p))
      (λ r _. refl) e
