-- The points of all rows of a border: how many a row has (`row_points`), and what it is to have put them and
-- their counts into a plan's file, for one row (`RowPut`) and for all (`RowsPut`).
use mathlib.Core.{Path.◌≡◌, Path.refl, Path.sym, Path.◌∙◌, Logic.◌≢◌, Bool.true, Bool.cond, List.List}
use Rattle.std.specs.Prelude.{ℕ, ◌+◌, ◌-◌, ◌*◌, ◌^◌, ◌≤◌, ◌<◌}
use native.Mathlib.{Omega.arith, Decide.ℕ_discrete}
use lib.{ListN.length, ListN.get_or, ListN.take, ListN.drop, Dec.eqb}
use Rattle.std.proofs.Common.{eq-eqb, ne_eqb}
use Rattle.theory_loops.specs.{Count.count, Count.count_same, Grid.grid_at}
use Rattle.theory_loops.specs.Total.{total, total_most, total_more, total_part}
use Rattle.theory_paths.specs.Earliest.{never}
use Rattle.theory_travel.specs.Turns.{turns, turn_count, turns_few, turns_same, turn_count_same}
use Rattle.file_fields.specs.Put.{put}
use Rattle.file_blocks.specs.{Kind.count_per, Kind.count_size, Place.offset}
use Rattle.network.specs.Limits.{most_period}
use Rattle.plan.specs.declared.header.PlanLayout.{PlanLayout}
use Rattle.plan.specs.{Plan.Plan, Plan.point_count, PlanDecode.point_tick, PlanDecode.point_travel}
use Rattle.plan_encode.specs.{Places.PlanRoom, PlanWritten.Entered}
use Rattle.plan_encode.specs.PlanWritten as written
use Rattle.toward_points.specs.Row.{entry_of, Low, points_before}
use Rattle.toward_list.specs.Rows.{row_long, row_entry}
use Rattle.plan_rows.specs.Points.{is_point, HasPoints, PutPoints, first_before}

-- how many points node u's row has: none where it has no number
unfoldable pub row_points : ℕ → List ℕ → ℕ → ℕ
row_points wide W u = cond (eqb (grid_at wide W u 0) never) 0 (turn_count (grid_at wide W u) wide)

-- rows of which each has no number, or numbers so small that two of them add up in 32 bits
pub record LowRows (nodes wide : ℕ) (W : List ℕ) : Type 0 where
  pub some : 0 < wide
  pub few : wide ≤ most_period
  pub entry : (u x : ℕ) → u < nodes → x < wide → grid_at wide W u 0 ≢ never → grid_at wide W u x < 2 ^ 31

-- plan p has node u's points from place `from` on, and their count as that of profile c
pub record HasRow (p : Plan) (wide : ℕ) (W : List ℕ) (u c from : ℕ) : Type 0 where
  pub counted : point_count p c ≡ row_points wide W u
  pub tick : grid_at wide W u 0 ≢ never → (x : ℕ) → x < wide → turns (grid_at wide W u) wide x ≡ true
      → point_tick p (from + count x (turns (grid_at wide W u) wide)) ≡ x
  pub travel : grid_at wide W u 0 ≢ never → (x : ℕ) → x < wide → turns (grid_at wide W u) wide x ≡ true
      → point_travel p (from + count x (turns (grid_at wide W u) wide)) ≡ grid_at wide W u x

-- Node u's points are put from place q on, up to place r, and their count as that of profile c: they are in,
-- for every plan that has them there.
pub record RowPut (k : PlanLayout) (wide : ℕ) (W : List ℕ) (u c q : ℕ) (s t : List ℕ) (r : ℕ) : Type 0 where
  pub next : r ≡ q + row_points wide W u
  pub long : length t ≡ length s
  pub entered : (p : Plan) → HasRow p wide W u c q → (c₀ q₀ : ℕ) (s₀ : List ℕ) → Entered k p c₀ q₀ s₀ c q s
      → Entered k p c₀ q₀ s₀ (c + 1) r t

-- The same for the first n nodes: node u's points behind those of the nodes before it.
pub record RowsPut (k : PlanLayout) (wide : ℕ) (W : List ℕ) (n c q : ℕ) (s t : List ℕ) (r : ℕ) : Type 0 where
  pub next : r ≡ q + total n (row_points wide W)
  pub long : length t ≡ length s
  pub entered : (p : Plan)
      → ((u : ℕ) → u < n → HasRow p wide W u (c + u) (q + total u (row_points wide W)))
      → (c₀ q₀ : ℕ) (s₀ : List ℕ) → Entered k p c₀ q₀ s₀ c q s → Entered k p c₀ q₀ s₀ (c + n) r t

module _ (wide : ℕ) (W : List ℕ) (u : ℕ) where
  pub points_none : grid_at wide W u 0 ≡ never → row_points wide W u ≡ 0
  unfolding row_points
  points_none e = rw (eq-eqb (grid_at wide W u 0) never e)

  pub points_some : grid_at wide W u 0 ≢ never → row_points wide W u ≡ turn_count (grid_at wide W u) wide
  unfolding row_points
  points_some e = rw (ne_eqb (grid_at wide W u 0) never e)

  pub points_few : row_points wide W u ≤ wide
  points_few = elim (ℕ_discrete (grid_at wide W u 0) never) [
    | yes e ↦ omega (arith, points_none e)
    | no e ↦ omega (arith, points_some e, turns_few (grid_at wide W u) wide)
  ]

-- few enough for 32 bits
pub rows_few : (wide : ℕ) (W : List ℕ) (n : ℕ) → total n (row_points wide W) ≤ n * wide
rows_few wide W n = total_most (row_points wide W) wide n (λ u _. points_few wide W u)

-- what stands at the place of node u's row
pub at_place : (wide : ℕ) (W : List ℕ) (u p : ℕ) {v : ℕ} → p ≡ u * wide → get_or W p 0 ≡ v → grid_at wide W u
    0 ≡ v
unfolding grid_at
at_place wide W u p e f = let z : u * wide + 0 ≡ p = omega arith in rw z f

pub at_row : (wide : ℕ) (W : List ℕ) (u p : ℕ) {v : ℕ} → p ≡ u * wide → grid_at wide W u 0 ≡ v → get_or W p 0 ≡ v
unfolding grid_at
at_row wide W u p e f = let z : p ≡ u * wide + 0 = omega arith in rw z f

-- THE ROW OF NODE u, lent as a part of the list from place p up to place e
module _ (wide : ℕ) (W : List ℕ) (u p e : ℕ) (at : p ≡ u * wide) (to : e ≡ p + wide) (fits : e ≤ length W)
  where
    abbrev row : List ℕ
    row = take (e - p) (drop p W)

    long : length (take (e - p) (drop p W)) ≡ wide
    long = row_long wide W u p e at to fits

    entry : (x : ℕ) → x < wide → get_or (take (e - p) (drop p W)) x 0 ≡ grid_at wide W u x
    entry = row_entry wide W u p e at to fits

    point_same : (x : ℕ) → x < wide → is_point row x ≡ turns (grid_at wide W u) wide x
    point_same x l =
        rw long (turns_same (entry_of row) (grid_at wide W u) wide entry x l)

    before_same : (x : ℕ) → x ≤ wide → points_before row x ≡ count x (turns (grid_at wide W u) wide)
    before_same x l = count_same _ _ x (λ i h. point_same i (omega arith))

    pub row_low : {n : ℕ} → LowRows n wide W → u < n → grid_at wide W u 0 ≢ never
        → Low (take (e - p) (drop p W))
    row_low r h ne = record {
      some = rw long r.some;
      few = rw long (omega (arith, r.few));
      entry = λ x l.
          let m : x < wide = omega (arith, long) in
          rw (entry x m) (r.entry u x h m ne);
    }

    pub row_turns : grid_at wide W u 0 ≢ never → turn_count (entry_of row) (length row) ≡ row_points wide W u
    row_turns ne =
        rw (long, points_some wide W u ne)
        (turn_count_same (entry_of row) (grid_at wide W u) wide entry)

    row_has : {p : Plan} {c from : ℕ} → HasRow p wide W u c from → grid_at wide W u 0 ≢ never
        → HasPoints p from row
    row_has {p} {c} {from} h ne = record {
      tick = λ x l y.
          let m : x < wide = omega (arith, long) in
          rw (before_same x (omega arith)) (h.tick ne x m (sym (point_same x m) ∙ y));
      travel = λ x l y.
          let m : x < wide = omega (arith, long) in
          rw (before_same x (omega arith), entry x m) (h.travel ne x m (sym (point_same x m) ∙ y));
    }

    -- its points are put, and then their count
    module _ (k : PlanLayout) (q : ℕ) {s m : List ℕ} {r : ℕ} (ne : grid_at wide W u 0 ≢ never)
        (put_all_lem : PutPoints k (take (e - p) (drop p W)) 0 (length (take (e - p) (drop p W))) q s m r) where
      pub row_next : r ≡ q + row_points wide W u
      unfolding turn_count
      row_next = omega (arith, put_all_lem.next, first_before row, row_turns ne)

      pub row_put : {c v : ℕ} {t : List ℕ} → c < k.profiles → v ≡ r - q → length t ≡ length m
          → t ≡ put 2 m (offset k.countblock count_per count_size c) v → RowPut k wide W u c q s t r
      row_put {c} {v} {t} l f g h = record {
        next = row_next;
        long = g ∙ put_all_lem.long;
        entered = λ p has c₀ q₀ s₀ n.
            let z : q ≡ q + points_before row 0 = omega (arith, first_before row) in
            let i : v ≡ point_count p c = omega (arith, row_next, has.counted) in
            written.count c r m t (put_all_lem.entered p q (row_has has ne) z c₀ q₀ s₀ c n) l (rw i at h);
      }

-- a row without a number has no points
pub row_never : {k : PlanLayout} {wide : ℕ} {W : List ℕ} {u c q : ℕ} {s t : List ℕ} → grid_at wide W u 0 ≡
    never
    → c < k.profiles → length t ≡ length s → t ≡ put 2 s (offset k.countblock count_per count_size c) 0
    → RowPut k wide W u c q s t q
row_never {wide = wide} {W = W} {u = u} {c = c} {q = q} {s = s} {t = t} e l g h = record {
  next = omega (arith, points_none wide W u e);
  long = g;
  entered = λ p has c₀ q₀ s₀ n.
      let i : 0 ≡ point_count p c = omega (arith, points_none wide W u e, has.counted) in
      written.count c q s t n l (rw i at h);
}

-- FOR THE LOOP over the nodes
module _ {k : PlanLayout} {wide : ℕ} {W : List ℕ} {c q : ℕ} {s : List ℕ} where
  pub rows_none : RowsPut k wide W 0 c q s s q
  unfolding total
  rows_none = record {
    next = omega arith;
    long = refl;
    entered = λ p has c₀ q₀ s₀ n. let z : c + 0 ≡ c = omega arith in rw z n;
  }

  pub rows_more : {u r w : ℕ} {m t : List ℕ} → RowsPut k wide W u c q s m r
      → RowPut k wide W u (c + u) r m t w → RowsPut k wide W (u + 1) c q s t w
  rows_more {u} {r} x y = record {
    next = omega (arith, x.next, y.next, total_more (row_points wide W) _ _ u refl refl);
    long = y.long ∙ x.long;
    entered = λ p has c₀ q₀ s₀ n.
        let z : c + (u + 1) ≡ c + u + 1 = omega arith in
        let h : HasRow p wide W u (c + u) r = rw x.next (has u (omega arith)) in
        rw z (y.entered p h c₀ q₀ s₀ (x.entered p (λ v l. has v (omega arith)) c₀ q₀ s₀ n));
  }

  pub rows_end : {i n r : ℕ} {t : List ℕ} → RowsPut k wide W i c q s t r → i ≤ n → n ≤ i
      → RowsPut k wide W n c q s t r
  rows_end {i} {n} x l m = let e : i ≡ n = omega arith in rw e at x

  -- there is room for the points of node u behind those before it
  pub rows_room : {u r : ℕ} {t : List ℕ} (n : ℕ) → RowsPut k wide W u c q s t r → u < n
      → q + total n (row_points wide W) ≤ k.points → r + row_points wide W u ≤ k.points
  rows_room {u} n x l h = omega (arith, x.next, total_part (row_points wide W) u n l)

  pub rows_kept : {u r : ℕ} {t : List ℕ} → PlanRoom k (length s) → RowsPut k wide W u c q s t r
      → PlanRoom k (length t)
  rows_kept r x = rw x.long r
