-- Walks over the counts and over the points of a plan file, in their order: what a walk rests on before count
-- k and before point q, that what code reads there is the plan's, and where it then stands.
use mathlib.Core.{Path.◌≡◌, Path.◌∙◌, Path.ap, List.List}
use Rattle.std.specs.Prelude.{ℕ, ◌+◌, ◌*◌, ◌/◌, ◌^◌, ◌≤◌, ◌<◌}
use Rattle.std.proofs.Common.{arith}
use lib.{ListN.length, Dec.lit<, Dec.lit≤}
use Rattle.file_fields.specs.{Block.block_size, Block.entries_size, Fields.le16, Fields.le32}
use Rattle.file_blocks.specs.Kind.{count_per, count_size, profile_point_per, profile_point_size}
use Rattle.file_blocks.specs.declared.walk.Walk.{Walk}
use Rattle.file_blocks.specs.Walk.{walk_at, stepped, walk_next, walk_there, walk_entry, walk_may, walk_on}
use Rattle.plan.specs.declared.header.PlanLayout.{PlanLayout}
use Rattle.plan.specs.Plan.{point_count}
use Rattle.plan.specs.PlanDecode.{PlanLaid, decode_plan, point_tick, point_travel, laid_plan, plan_small}
use Rattle.plan.specs.PlanDecode.{count_in, count_is, point_in, tick_is, travel_is}

abbrev pub count_at : ℕ → ℕ → Walk
count_at block k = walk_at block count_per count_size k

abbrev pub point_at : ℕ → ℕ → Walk
point_at block q = walk_at block profile_point_per profile_point_size q

-- THE COUNTS
module _ {plan : List ℕ} {l : PlanLayout} (s : PlanLaid plan l) {k : ℕ} (h : k < l.profiles) {c : Walk}
    (e : c ≡ count_at l.countblock k) where
  pub count_there : c.at + 0 + 2 ≤ length plan
  count_there = walk_there (count_in s h) e 0 2 (lit≤ tt)

  pub count_read : {r : ℕ} → r ≡ le16 plan (c.at + 0) → r ≡ point_count (decode_plan plan) k
  count_read f = count_is s h (walk_entry (count_in s h) e le16 0 f)

  pub count_may : (0 < count_per) × (count_size * count_per ≤ entries_size) × (c.at + block_size < 2 ^ 64)
  count_may = (lit< tt, lit≤ tt, omega (arith, count_there, s.long, laid_plan s, plan_small s))

  pub count_on_lem : {d : Walk} → d ≡ stepped count_per count_size c → d ≡ count_at l.countblock (k + 1)
  count_on_lem f =
      f ∙ ap (stepped count_per count_size) e
      ∙ walk_next l.countblock count_per count_size k (lit< tt) (lit≤ tt)

-- THE POINTS
module _ {plan : List ℕ} {l : PlanLayout} (s : PlanLaid plan l) {q : ℕ} (h : q < l.points) where
  pub point_near : l.pointblock + q / profile_point_per < 2 ^ 54
  point_near = (point_in s h).near

  module _ {c : Walk} (e : c ≡ point_at l.pointblock q) where
    pub tick_there : c.at + 0 + 2 ≤ length plan
    tick_there = walk_there (point_in s h) e 0 2 (lit≤ tt)

    pub travel_there : c.at + 2 + 4 ≤ length plan
    travel_there = walk_there (point_in s h) e 2 4 (lit≤ tt)

    pub tick_read : {r : ℕ} → r ≡ le16 plan (c.at + 0) → r ≡ point_tick (decode_plan plan) q
    tick_read f = tick_is s h (walk_entry (point_in s h) e le16 0 f)

    pub travel_read : {r : ℕ} → r ≡ le32 plan (c.at + 2) → r ≡ point_travel (decode_plan plan) q
    travel_read f = travel_is s h (walk_entry (point_in s h) e le32 2 f)

-- and for code that steps on from point q + k
module _ {plan : List ℕ} {l : PlanLayout} (s : PlanLaid plan l) (q k : ℕ) (h : q + k < l.points) {c : Walk}
    (e : c ≡ point_at l.pointblock (q + k)) where
  pub point_may : (0 < profile_point_per) × (profile_point_size * profile_point_per ≤ entries_size)
      × (c.at + block_size < 2 ^ 64)
  point_may = walk_may q k (point_in s h) e

  pub point_on : {d : Walk} → d ≡ stepped profile_point_per profile_point_size c
      → d ≡ point_at l.pointblock (q + (k + 1))
  point_on = walk_on q k (point_in s h) e
