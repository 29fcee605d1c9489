-- How far the blocks of a plan's points have been looked at, before block `done`: the blocks behind it have
-- right checks and their form, and the breaks of their points are counted. A profile's points are reached by
-- walking up to the block of its last.
use mathlib.Core.{Path.◌≡◌, Path.sym, Path.◌∙◌, Bool.Bool, Bool.true, Bool.false, Bool.not, List.List}
use Rattle.std.specs.Prelude.{ℕ, suc, ◌+◌, ◌-◌, ◌*◌, ◌<◌, ◌≤◌, min}
use native.Mathlib.{Nat.add-zero, Omega.arith}
use lib.{Dec.lit<, ListN.length}
use borrow.Author.{Count.below_more, Tests.not-false}
use Rattle.theory_loops.specs.Count.{count, count_none, count_few}
use Rattle.theory_breaks.specs.Tally.{flag, before, tally_block}
use Rattle.file_fields.specs.{Block.block_size, Block.head_size, Fields.le16}
use Rattle.file_blocks.specs.Kind.{profile_point_kind, profile_point_size, profile_point_per}
use Rattle.file_blocks.specs.Place.{blocks, entries_in, offset_at, index_below, block_used, block_in}
use Rattle.file_blocks.specs.Place.{block_starts, block_fits}
use Rattle.file_forms.specs.SoundBlock.{sound_block}
use Rattle.plan.specs.declared.header.PlanLayout.{PlanLayout}
use Rattle.plan.specs.{Plan.Plan, PlanLimits.most_profile_points, PlanLimits.most_plan_bytes}
use Rattle.plan.specs.PlanDecode.{decode_plan, PlanLaid, point_tick, plan_small}
use Rattle.plan.specs.PlanDecode.{points_stored, laid_plan, tick_is}
use Rattle.plan_rising.specs.declared.progress.Progress.{Progress}
use Rattle.plan_rising.specs.{Falls.falls, Breaks.broken, Breaks.falls_at, Breaks.break_at}

-- block j of the points has a right check and its form
abbrev pub points_sound : List ℕ → PlanLayout → ℕ → Bool
points_sound file l j =
    sound_block file l.pointblock profile_point_kind profile_point_per profile_point_size l.points j

pub record Walked (file : List ℕ) (l : PlanLayout) (w : Progress) : Type 0 where
  pub within : w.done ≤ blocks profile_point_per l.points
  pub sound : (j : ℕ) → j < w.done → points_sound file l j ≡ true
  pub last_small : w.last < 65536
  pub last_is : w.last
      ≡ before (point_tick (decode_plan file)) (min l.points (profile_point_per * w.done))
  pub counted : w.breaks
      ≡ count (min l.points (profile_point_per * w.done)) (broken (point_tick (decode_plan file)))

-- so far that the points before number `from` are behind it
pub record WalkedTo (file : List ℕ) (l : PlanLayout) (from : ℕ) (w : Progress) : Type 0 where
  pub room : from ≤ l.points
  pub done_is : w.done ≡ blocks profile_point_per from
  pub walked : Walked file l w

-- FOR CODE that has asked whether the next block is sound
pub next_sound : {file : List ℕ} {l : PlanLayout} {w : Progress} → Walked file l w → (j : ℕ) (t : Bool)
    → w.done ≡ j → t ≡ points_sound file l j → not t ≡ false → points_sound file l w.done ≡ true
next_sound i j t d e f = rw d (sym e ∙ not-false t f)

-- block j of the points has k of them, and stands in the file
pub record BlockAt (file : List ℕ) (l : PlanLayout) (j k : ℕ) : Type 0 where
  pub some : 0 < k
  pub most : k ≤ profile_point_per
  pub room : block_size * (l.pointblock + j) + head_size + profile_point_size * k ≤ length file
  pub few : length file ≤ most_plan_bytes

module _ {file : List ℕ} {l : PlanLayout} (s : PlanLaid file l) where
  abbrev p : Plan
  p = decode_plan file

  pub walked_none : (w : Progress) → (w.done ≡ 0) × (w.last ≡ 0) × (w.breaks ≡ 0)
      → WalkedTo file l 0 w
  unfolding before
  walked_none w (d, e, f) =
      let z : min l.points (profile_point_per * 0) ≡ 0 = omega arith in
      record {
        room = omega arith;
        done_is = omega arith;
        walked = record {
          within = omega arith;
          sound = λ j o. absurd (omega arith);
          last_small = omega arith;
          last_is = rw (d, z, e);
          counted = rw (d, z, f) (count_none (broken (point_tick p)));
        };
      }

  -- ONE BLOCK MORE, with k points
  module _ (w : Progress) (i : Walked file l w) (h : w.done < blocks profile_point_per l.points) where
    -- it starts behind the points counted
    pub block_begins : profile_point_per * w.done ≤ l.points
    block_begins = block_starts _ _ _ _ _ (points_stored s) w.done h

    module _ (k : ℕ) (e : k ≡ entries_in profile_point_per l.points w.done) where
      abbrev j : ℕ
      j = w.done

      abbrev base : ℕ
      base = block_size * (l.pointblock + j) + head_size

      pub block_at : BlockAt file l w.done k
      block_at =
          let r = points_stored s in
          record {
            some = rw e (block_used profile_point_per (lit< tt) l.points j h);
            most = omega (arith, e);
            room = omega (arith, block_in _ _ _ _ _ r j h, block_fits _ _ _ _ _ r j h k e);
            few = omega (arith, s.long, laid_plan s, plan_small s);
          }

      behind_it : min l.points (profile_point_per * j) ≡ profile_point_per * j
      behind_it = omega (arith, block_begins)

      through_it : min l.points (profile_point_per * (j + 1)) ≡ profile_point_per * j + k
      through_it = omega (arith, e, behind_it)

      -- its ticks are the plan's
      tick_there : (q : ℕ) → q < k
          → le16 file (base + profile_point_size * q) ≡ point_tick p (profile_point_per * j + q)
      tick_there q o =
          let place = offset_at l.pointblock profile_point_per profile_point_size (lit< tt) j q
          (omega (arith, e)) in
          let inside = index_below profile_point_per (lit< tt) l.points j q (rw e at o) in
          tick_is s inside (rw (place, add-zero))

      -- the break at its first point, and those at the others
      first_break : (x r : ℕ) → x ≡ le16 file base → r ≡ flag (falls x w.last)
          → r ≡ flag (broken (point_tick p) (profile_point_per * j))
      unfolding broken
      first_break x r a f =
          let z : profile_point_per * j + 0 ≡ profile_point_per * j = omega arith in
          let y : base + profile_point_size * 0 ≡ base = omega arith in
          let t : le16 file base ≡ point_tick p (profile_point_per * j) =
          rw (y, z) at (tick_there 0 block_at.some) in
          rw (a, t, i.last_is, behind_it) at f

      other_break : (q : ℕ) → q < k - 1
          → break_at file base q ≡ broken (point_tick p) (profile_point_per * j + 1 + q)
      unfolding break_at falls_at broken before
      other_break q o =
          let z : profile_point_per * j + 1 + q ≡ suc (profile_point_per * j + q) = omega arith in
          let w : base + profile_point_size * suc q ≡ base + profile_point_size * q + profile_point_size =
          omega arith in
          let y : profile_point_per * j + suc q ≡ suc (profile_point_per * j + q) = omega arith in
          let t = rw (w, y) at (tick_there (suc q) (omega arith)) in
          rw (z, tick_there q (omega arith), t)

      -- the counts are small
      pub walked_few : (r o : ℕ) → r < 2
          → o ≡ count (k - 1) (break_at file (block_size * (l.pointblock + w.done) + head_size))
          → w.breaks + r + o ≤ most_profile_points + profile_point_per + 1
      walked_few r o f u = omega (
        arith,
        (plan_small s).points_most,
        e,
        i.counted,
        count_few (broken (point_tick p)) (min l.points (profile_point_per * j)),
        u,
        count_few (break_at file base) (k - 1),
      )

      pub walked_more : (x y r o : ℕ) → points_sound file l w.done ≡ true
          → x ≡ le16 file (block_size * (l.pointblock + w.done) + head_size) → r ≡ flag (falls x w.last)
          → o ≡ count (k - 1) (break_at file (block_size * (l.pointblock + w.done) + head_size))
          → y ≡ le16 file (block_size * (l.pointblock + w.done) + head_size + profile_point_size * (k - 1))
          → y < 65536
          → Walked file l (record { done = w.done + 1; last = y; breaks = w.breaks + r + o })
      unfolding before
      walked_more x y r o v a f u b m =
          let z : profile_point_per * j + k ≡ suc (profile_point_per * j + (k - 1)) = omega (arith, block_at) in
          record {
            within = omega arith;
            sound = λ q m. below_more (λ q. points_sound file l q ≡ true) j i.sound v q (omega arith);
            last_small = m;
            last_is = rw (through_it, z) (b ∙ tick_there (k - 1) (omega (arith, block_at)));
            counted = rw through_it
                (tally_block (broken (point_tick p)) (break_at file base) (profile_point_per * j) k w.breaks r
                o block_at.some (rw behind_it at i.counted) (first_break x r a f) u other_break);
          }
