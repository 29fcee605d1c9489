-- The points of one row in a plan's file, put from a place on, part by part of the day (`PutPoints`), and the
-- laws by which the parts are joined.
use mathlib.Core.{Path.◌≡◌, Path.refl, Path.◌∙◌, Logic.◌≢◌, Bool.Bool, Bool.true, List.List}
use Rattle.std.specs.Prelude.{ℕ, ◌+◌, ◌-◌, ◌*◌, ◌≤◌, ◌<◌, length, get_or}
use Rattle.std.proofs.Common.{arith}
use Rattle.theory_loops.specs.Count.{count_none, count_grows, count_rises, count_yes, count_passes}
use Rattle.theory_travel.specs.Turns.{turns, turn_count, turn_start}
use Rattle.file_fields.specs.Put.{put}
use Rattle.file_blocks.specs.{Kind.profile_point_per, Kind.profile_point_size, Place.offset}
use Rattle.plan.specs.declared.header.PlanLayout.{PlanLayout}
use Rattle.plan.specs.{Plan.Plan, PlanDecode.point_tick, PlanDecode.point_travel}
use Rattle.plan_encode.specs.{Places.PlanRoom, PlanWritten.Entered}
use Rattle.plan_encode.specs.PlanWritten as written
use Rattle.toward_points.specs.Row.{entry_of, points_before, differ, turned_next, turned_last}

-- tick x is a point of the row
abbrev pub is_point : List ℕ → ℕ → Bool
is_point row x = turns (entry_of row) (length row) x

-- plan p has the row's points from place `from` on
pub record HasPoints (p : Plan) (from : ℕ) (row : List ℕ) : Type 0 where
  pub tick : (x : ℕ) → x < length row → is_point row x ≡ true → point_tick p (from + points_before row x) ≡ x
  pub travel : (x : ℕ) → x < length row → is_point row x ≡ true
      → point_travel p (from + points_before row x) ≡ get_or row x 0

-- The points from tick a up to tick b are put from place q on, up to place r: they are in, for every plan
-- that
-- has the row's points there.
pub record PutPoints (k : PlanLayout) (row : List ℕ) (a b q : ℕ) (s t : List ℕ) (r : ℕ) : Type 0 where
  pub next : points_before row a + r ≡ points_before row b + q
  pub long : length t ≡ length s
  pub entered : (p : Plan) (from : ℕ) → HasPoints p from row → q ≡ from + points_before row a → (c₀ q₀ : ℕ)
      (s₀ : List ℕ) (c : ℕ) → Entered k p c₀ q₀ s₀ c q s → Entered k p c₀ q₀ s₀ c r t

module _ {k : PlanLayout} {row : List ℕ} where
  -- a part without a point
  pub put_none : {a b q : ℕ} {s : List ℕ} → points_before row b ≡ points_before row a
      → PutPoints k row a b q s s q
  put_none e = record { next = omega arith; long = refl; entered = λ p from h z c₀ q₀ s₀ c n. n }

  -- one point
  pub put_one : {x q v : ℕ} {s t : List ℕ} → x < length row → is_point row x ≡ true → q < k.points
      → v ≡ get_or row x 0 → length t ≡ length s
      → t ≡ put 6 s (offset k.pointblock profile_point_per profile_point_size q) (x + 65536 * v)
      → PutPoints k row x (x + 1) q s t (q + 1)
  put_one {x} {q} {v} {s} {t} l y m e f g = record {
    next = omega (arith, count_yes (turns (entry_of row) (length row)) (points_before row x) x refl y);
    long = f;
    entered = λ p from h z c₀ q₀ s₀ c n.
        let a : point_tick p q ≡ x = rw z (h.tick x l y) in
        let b : point_travel p q ≡ v = rw (e, z) (h.travel x l y) in
        written.point c q s t n m (rw (a, b) g);
  }

  -- two parts, one after the other
  pub put_join : {a m b q r w : ℕ} {s u t : List ℕ} → PutPoints k row a m q s u r → PutPoints k row m b r u
      t w
      → PutPoints k row a b q s t w
  put_join {m = m} {r = r} x y = record {
    next = omega (arith, x.next, y.next);
    long = y.long ∙ x.long;
    entered = λ p from h z c₀ q₀ s₀ c n.
        let i : r ≡ from + points_before row m = omega (arith, x.next) in
        y.entered p from h i c₀ q₀ s₀ c (x.entered p from h z c₀ q₀ s₀ c n);
  }

  -- a part said by another end
  pub put_end : {a i b q r : ℕ} {s t : List ℕ} → PutPoints k row a i q s t r → i ≤ b → b ≤ i
      → PutPoints k row a b q s t r
  put_end {i = i} {b = b} x l m = let e : i ≡ b = omega arith in rw e at x

-- FOR CODE that has asked whether tick x is a point, before the last tick and at it; r is what it was told
module _ (row : List ℕ) (x r : ℕ) (l : 1 ≤ x) where
  pub step_in : x + 1 < length row
      → r ≡ differ (get_or row (x - 1) 0 + get_or row (x + 1) 0) (get_or row x 0 + get_or row x 0)
      → points_before row x + r ≡ points_before row (x + 1)
  step_in h e = turned_next (entry_of row) (length row) (points_before row x) x r l h refl e

  pub step_last : x + 1 ≡ length row
      → r ≡ differ (get_or row (x - 1) 0 + get_or row 0 0) (get_or row x 0 + get_or row x 0)
      → points_before row x + r ≡ points_before row (x + 1)
  unfolding turn_count
  step_last h e = rw h (turned_last (entry_of row) (length row) (points_before row x) x r l h refl e)

-- it is none, or it is put
module _ {k : PlanLayout} {row : List ℕ} {x r q : ℕ} (e : points_before row x + r ≡ points_before row (x + 1))
  where
    pub tick_none : {s : List ℕ} → r ≡ 0 → PutPoints k row x (x + 1) q s s q
    tick_none n = put_none (omega arith)

    pub tick_put : {v : ℕ} {s t : List ℕ} → r ≢ 0 → x < length row → q < k.points → v ≡ get_or row x 0
        → length t ≡ length s
        → t ≡ put 6 s (offset k.pointblock profile_point_per profile_point_size q) (x + 65536 * v)
        → PutPoints k row x (x + 1) q s t (q + 1)
    tick_put n l m f g h =
        put_one l (count_passes (turns (entry_of row) (length row)) x (omega arith)) m f g h

-- THE FIRST TICK, which is a point, and all of them
pub first_before : (row : List ℕ) → points_before row 0 ≡ 0
first_before row = omega (arith, count_none (turns (entry_of row) (length row)))

module _ (k : PlanLayout) (row : List ℕ) (q : ℕ) (some : 0 < length row)
    (h : q + turn_count (entry_of row) (length row) ≤ k.points) where
  pub all_room : q + (points_before row (length row) - points_before row 0) ≤ k.points
  unfolding turn_count
  all_room = omega (arith, first_before row)

  pub first_room : q < k.points
  first_room =
      omega (
        arith,
        all_room,
        count_rises (turns (entry_of row) (length row)) 0 (length row) some
            (turn_start (entry_of row) (length row)),
      )

  pub first_put : {v : ℕ} {s t : List ℕ} → v ≡ get_or row 0 0 → length t ≡ length s
      → t ≡ put 6 s (offset k.pointblock profile_point_per profile_point_size q) (0 + 65536 * v)
      → PutPoints k row 0 1 q s t (q + 1)
  first_put e f g = put_one some (turn_start (entry_of row) (length row)) first_room e f g

-- the file keeps its room
pub room_kept : {k : PlanLayout} {row s t : List ℕ} {a x q at : ℕ} → PlanRoom k (length s)
    → PutPoints k row a x q s t at → PlanRoom k (length t)
room_kept r p = rw p.long r

-- there is room for a part of the points from tick a up to tick b, where there is for all
pub part_room : {k : PlanLayout} {row s t : List ℕ} {a x q at : ℕ} (e b : ℕ) → PutPoints k row a x q s t at
    → a ≤ x → x ≤ e → e ≤ b → q + (points_before row b - points_before row a) ≤ k.points
    → at + (points_before row e - points_before row x) ≤ k.points
part_room {row = row} {a = a} {x = x} e b p l m n h =
    let f = turns (entry_of row) (length row) in
    omega (arith, p.next, count_grows f a x l, count_grows f x e m, count_grows f e b n)
