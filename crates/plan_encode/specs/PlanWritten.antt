-- What the writing of a plan leaves: frames, then each count and each point in its order, the two streams
-- interleaved in any way (`Entered`), then the flag words and the checks. It is the plan's file
-- (`plan_written`).
use mathlib.Core.{Path.◌≡◌, Path.refl, Path.subst, List.List}
use Rattle.std.specs.Prelude.{ℕ, ◌+◌, ◌*◌, ◌<◌, length, get_or}
use Rattle.theory_loops.specs.Fill.{overwritten}
use Rattle.file_fields.specs.Put.{put}
use Rattle.file_blocks.specs.Kind.{flag_per, flag_size, count_per, count_size, profile_point_per, profile_point_size}
use Rattle.file_blocks.specs.Place.{offset}
use Rattle.file_frames.specs.{Laid.none, Laid.up_to, Laid.entries_put, Sealed.sealed_to}
use Rattle.plan.specs.declared.header.{PlanHeader.PlanHeader, PlanLayout.PlanLayout}
use Rattle.plan.specs.{Plan.Plan, Plan.point_count, PlanLayout.profile_count}
use Rattle.plan.specs.PlanDecode.{flag_word, point_tick, point_travel}
use Rattle.plan_encode.specs.PlanEncode.{flag_byte, count_byte, profile_point_byte, encode_plan}
use Rattle.plan_encode.specs.{Places.PlanWritable, Places.laid_by, Laying.laying_whole}
use Rattle.plan_encode.specs.Laying.{Laying, framed_laying, count_more, point_more, flags_laying}

-- from a list in which c₀ counts and q₀ points of the plan are in, to one in which c and q of them are
pub data Entered (l : PlanLayout) (p : Plan) (c₀ q₀ : ℕ) (s₀ : List ℕ) : ℕ → ℕ → List ℕ → Type 0 where
  start : Entered l p c₀ q₀ s₀ c₀ q₀ s₀
  count : (c q : ℕ) (s t : List ℕ) → Entered l p c₀ q₀ s₀ c q s → c < l.profiles
      → t ≡ put 2 s (offset l.countblock count_per count_size c) (point_count p c)
      → Entered l p c₀ q₀ s₀ (c + 1) q t
  point : (c q : ℕ) (s t : List ℕ) → Entered l p c₀ q₀ s₀ c q s → q < l.points
      → t ≡ put 6 s (offset l.pointblock profile_point_per profile_point_size q)
      (point_tick p q + 65536 * point_travel p q)
      → Entered l p c₀ q₀ s₀ c (q + 1) t

module _ {k : PlanHeader} {l : PlanLayout} (p : Plan) (F : ℕ → ℕ → ℕ) (c₀ q₀ : ℕ) (old s₀ : List ℕ)
    (w : PlanWritable k l (length old))
    (h : Laying k F (up_to c₀ (count_byte p.counts)) (up_to q₀ (profile_point_byte p.ticks p.travels)) old
    s₀) where
  pub entered_laying : (c q : ℕ) (s : List ℕ) → Entered l p c₀ q₀ s₀ c q s
      → Laying k F (up_to c (count_byte p.counts)) (up_to q (profile_point_byte p.ticks p.travels)) old s
  entered_laying _ _ _ start = h
  entered_laying _ _ _ (count c q s t e m f) =
      count_more old s t w F _ p.counts c (point_count p c) (entered_laying c q s e) m refl f
  entered_laying _ _ _ (point c q s t e m f) =
      point_more old s t w F _ p.ticks p.travels q (point_tick p q) (point_travel p q)
      (entered_laying c q s e) m refl refl f

-- frames, all counts and points, the flag words, the checks
pub plan_written : {k : PlanHeader} {l : PlanLayout} (p : Plan)
    (old frames entered flagged new words : List ℕ)
    → PlanWritable k l (length old) → Laying k none none none old frames
    → Entered l p 0 0 frames l.profiles l.points entered
    → ((a : ℕ) → a < l.arcs → get_or words a 0 ≡ flag_word p a)
    → flagged ≡ entries_put 1 flag_per flag_size words l.arcs entered
    → new ≡ sealed_to l.blocks flagged → new ≡ overwritten (encode_plan k p) old
plan_written {k} {l} p old frames entered flagged new words w f e d g h =
    let F = flag_byte p.flag_words in
    let C = count_byte p.counts in
    let P = profile_point_byte p.ticks p.travels in
    let x : Laying k (up_to k.arcs F) (up_to l.profiles C) (up_to l.points P) old flagged =
    flags_laying (up_to l.profiles C) (up_to l.points P) old entered w words p.flag_words d
    (entered_laying p (up_to 0 F) 0 0 old frames w (framed_laying k F C P old frames f) l.profiles
    l.points entered e) flagged g in
    let y = subst (λ (c : ℕ). Laying k (up_to k.arcs F) (up_to c C) (up_to l.points P) old flagged)
    (laid_by w).profiles x in
    let z = subst (λ (q : ℕ). Laying k (up_to k.arcs F) (up_to (profile_count k) C) (up_to q P) old flagged)
    (laid_by w).points y in
    laying_whole p old flagged new w z h
