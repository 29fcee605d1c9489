-- A plan's file in the making: which entries of its three runs are in (`Laying`), and the laws by which each
-- step of the writing goes on from there. Frames, then counts and points each in their order, the flag words,
-- and the checks leave the plan's file (`laying_whole`).
use mathlib.Core.{Path.◌≡◌, Path.refl, Path.sym, Path.ap, Path.subst, List.List}
use Prim.Native.Nat.{ℕ, zero, suc, ◌+◌, ◌*◌, ◌≤◌, ◌<◌}
use native.Mathlib.Omega.{arith}
use lib.{ListN.length, ListN.get_or, Dec.lit<, Dec.lit≤}
use Rattle.theory_loops.specs.Fill.{overwritten}
use Rattle.file_fields.specs.{Fields.byte_of, Put.put}
use Rattle.file_blocks.specs.Kind.{flag_per, flag_size, count_per, count_size, profile_point_per, profile_point_size}
use Rattle.file_blocks.specs.Place.{offset}
use Rattle.file_frames.specs.Laid.{BodyLaid, up_to, none, up_to_none, up_to_below, entries_put}
use Rattle.file_frames.specs.Runs.{ShapeFits, first_laid, second_laid, third_laid, runs_sealed}
use Rattle.file_frames.specs.Sealed.{sealed_to}
use Rattle.plan.specs.declared.header.{PlanHeader.PlanHeader, PlanLayout.PlanLayout}
use Rattle.plan.specs.{Plan.Plan, PlanLayout.profile_count, PlanLayout.plan_blocks}
use Rattle.plan_encode.specs.PlanEncode.{plan_shape, plan_body, encode_plan, flag_byte, count_byte}
use Rattle.plan_encode.specs.PlanEncode.{profile_point_byte}
use Rattle.plan_encode.specs.Places.{PlanWritable, laid_by, blocks_fit}

-- the blocks of a plan with header k but their checks, its entries by their bytes
abbrev pub Laying : PlanHeader → (flags counts points : ℕ → ℕ → ℕ) → List ℕ → List ℕ → Type 0
Laying k F C P old new = BodyLaid (plan_body k F C P) (plan_blocks k) old new

pub plan_fits : (k : PlanHeader) → ShapeFits (plan_shape k)
plan_fits k = record {
  some = lit< tt;
  fit = lit≤ tt;
  first = record { pos = lit< tt; some = lit< tt; fit = lit≤ tt };
  second = record { pos = lit< tt; some = lit< tt; fit = lit≤ tt };
  third = record { pos = lit< tt; some = lit< tt; fit = lit≤ tt };
}

-- FRAMES: no entry is in
pub framed_laying : (k : PlanHeader) (F C P : ℕ → ℕ → ℕ) (old new : List ℕ) → Laying k none none none old new
    → Laying k (up_to 0 F) (up_to 0 C) (up_to 0 P) old new
framed_laying k F C P old new h = rw (up_to_none F, up_to_none C, up_to_none P) h

-- AN ENTRY MORE, put at its place
module _ {k : PlanHeader} {l : PlanLayout} (old s t : List ℕ) (w : PlanWritable k l (length old)) where
  flag_more : (C P : ℕ → ℕ → ℕ) (flags : List ℕ) (a v : ℕ)
      → Laying k (up_to a (flag_byte flags)) C P old s → a < l.arcs → v ≡ get_or flags a 0
      → t ≡ put 8 s (offset 1 flag_per flag_size a) v → Laying k (up_to (a + 1) (flag_byte flags)) C P old t
  unfolding flag_byte
  flag_more C P flags a v h m d p =
      first_laid (plan_shape k) (plan_fits k) _ (flag_byte flags) C P old s t (blocks_fit w) v a h
      (omega (arith, laid_by w))
      (λ r _. ap (λ (x : ℕ). byte_of x r) (sym d)) p

  pub count_more : (F P : ℕ → ℕ → ℕ) (counts : List ℕ) (q v : ℕ)
      → Laying k F (up_to q (count_byte counts)) P old s
      → q < l.profiles → v ≡ get_or counts q 0 → t ≡ put 2 s (offset l.countblock count_per count_size q) v
      → Laying k F (up_to (q + 1) (count_byte counts)) P old t
  unfolding count_byte
  count_more F P counts q v h m d p =
      second_laid (plan_shape k) (plan_fits k) _ F (count_byte counts) P old s t (blocks_fit w) v q h
      (omega (arith, laid_by w))
      (λ r _. ap (λ (x : ℕ). byte_of x r) (sym d)) (rw (laid_by w).countblock at p)

  pub point_more : (F C : ℕ → ℕ → ℕ) (ticks travels : List ℕ) (q x y : ℕ)
      → Laying k F C (up_to q (profile_point_byte ticks travels)) old s → q < l.points → x ≡ get_or ticks q 0
      → y ≡ get_or travels q 0
      → t ≡ put 6 s (offset l.pointblock profile_point_per profile_point_size q) (x + 65536 * y)
      → Laying k F C (up_to (q + 1) (profile_point_byte ticks travels)) old t
  unfolding profile_point_byte
  point_more F C ticks travels q x y h m c d p =
      third_laid (plan_shape k) (plan_fits k) _ F C (profile_point_byte ticks travels) old s t
      (blocks_fit w) (x + 65536 * y) q h (omega (arith, laid_by w)) (λ r _. rw (← c, ← d))
      (rw (laid_by w).pointblock at p)

-- ALL FLAG WORDS, put one after the other from a list that may be longer
module _ {k : PlanHeader} {l : PlanLayout} (C P : ℕ → ℕ → ℕ) (old s : List ℕ)
    (w : PlanWritable k l (length old)) (words flags : List ℕ)
    (d : (a : ℕ) → a < l.arcs → get_or words a 0 ≡ get_or flags a 0)
    (h : Laying k (up_to 0 (flag_byte flags)) C P old s) where
  flags_to_lem : (a : ℕ) → a ≤ l.arcs
      → Laying k (up_to a (flag_byte flags)) C P old (entries_put 1 flag_per flag_size words a s)
  unfolding entries_put
  flags_to_lem zero m = h
  flags_to_lem (suc a) m =
      let z : a + 1 ≡ suc a = omega arith in
      rw (← z)
      (flag_more old (entries_put 1 flag_per flag_size words a s) _ w C P flags a (get_or words a 0)
      (flags_to_lem a (omega arith)) (omega arith) (d a (omega arith)) refl)

  pub flags_laying : (t : List ℕ) → t ≡ entries_put 1 flag_per flag_size words l.arcs s
      → Laying k (up_to k.arcs (flag_byte flags)) C P old t
  flags_laying t p =
      subst (λ (a : ℕ). Laying k (up_to a (flag_byte flags)) C P old t) (laid_by w).arcs
      (rw p (flags_to_lem l.arcs (omega arith)))

-- THE WHOLE FILE: all entries are in, and the checks follow
module _ {k : PlanHeader} {l : PlanLayout} (p : Plan) (old s t : List ℕ)
    (w : PlanWritable k l (length old)) where
  pub laying_whole : Laying k (up_to k.arcs (flag_byte p.flag_words))
      (up_to (profile_count k) (count_byte p.counts))
      (up_to k.points (profile_point_byte p.ticks p.travels)) old s
      → t ≡ sealed_to l.blocks s → t ≡ overwritten (encode_plan k p) old
  unfolding encode_plan
  laying_whole h q =
      let F = flag_byte p.flag_words in
      let C = count_byte p.counts in
      let P = profile_point_byte p.ticks p.travels in
      runs_sealed (plan_shape k) (plan_fits k) _ F C P (up_to k.arcs F) (up_to (profile_count k) C)
      (up_to k.points P) old s t (blocks_fit w) h (up_to_below F k.arcs)
      (up_to_below C (profile_count k)) (up_to_below P k.points) (rw (laid_by w).all at q)
