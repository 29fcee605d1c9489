-- What the writing of a plan's file requires: a layout, and a list with room for its blocks.
use mathlib.Core.{Path.◌≡◌, List.List}
use Rattle.std.specs.Prelude.{ℕ, ◌+◌, ◌*◌, ◌^◌, ◌≤◌, ◌<◌}
use Rattle.std.proofs.Common.{arith, lit<, lit≤}
use Rattle.file_fields.specs.{Block.block_size, Put.put, Put.put_join}
use Rattle.file_blocks.specs.Kind.{flag_per, flag_size, count_per, count_size, profile_point_per, profile_point_size}
use Rattle.file_blocks.specs.Place.{offset, blocks, entry_in}
use Rattle.file_frames.specs.Framed.{FrameRoom}
use Rattle.network.specs.Limits.{most_arcs}
use Rattle.plan.specs.declared.header.{PlanHeader.PlanHeader, PlanLayout.PlanLayout}
use Rattle.plan.specs.{PlanDecode.LaidPlan, PlanDecode.layout_plan, PlanHeader.PlanWithin}
use Rattle.plan.specs.PlanLayout.{plan_layout_of, plan_blocks, plan_few}
use Rattle.plan.specs.PlanLimits.{most_plan_blocks}

-- for entries: the runs one behind the other, few blocks, and room for them
pub record PlanRoom (l : PlanLayout) (room : ℕ) : Type 0 where
  pub counts_at : l.countblock ≡ 1 + blocks flag_per l.arcs
  pub points_at : l.pointblock ≡ l.countblock + blocks count_per l.profiles
  pub all : l.blocks ≡ l.pointblock + blocks profile_point_per l.points
  pub few : l.blocks ≤ most_plan_blocks
  pub arcs_few : l.arcs ≤ most_arcs
  pub whole : block_size * l.blocks ≤ room

-- for frames: the layout of a header within the limits
pub record PlanWritable (k : PlanHeader) (l : PlanLayout) (room : ℕ) : Type 0 where
  pub is : l ≡ plan_layout_of k
  pub within : PlanWithin k
  pub number_fits : k.number < 2 ^ 32
  pub whole : block_size * l.blocks ≤ room

-- the layout's counts and blocks, by the header
module _ {k : PlanHeader} {l : PlanLayout} {room : ℕ} (w : PlanWritable k l room) where
  pub laid_by : LaidPlan k l
  laid_by = layout_plan w.is

  pub blocks_fit : block_size * plan_blocks k ≤ room
  blocks_fit = omega (arith, laid_by, w.whole)

  pub plan_room_lem : PlanRoom l room
  plan_room_lem = record {
    counts_at = omega (arith, laid_by);
    points_at = omega (arith, laid_by);
    all = omega (arith, laid_by);
    few = omega (arith, laid_by, plan_few w.within);
    arcs_few = omega (arith, laid_by, w.within);
    whole = w.whole;
  }

-- an entry stands in the list
module _ {l : PlanLayout} {room : ℕ} (p : PlanRoom l room) {q : ℕ} where
  pub flag_fits : q < l.arcs → offset 1 flag_per flag_size q + flag_size ≤ room
  flag_fits m = omega (arith, p, entry_in 1 flag_per flag_size (lit< tt) (lit≤ tt) l.arcs q m)

  pub count_fits : q < l.profiles → offset l.countblock count_per count_size q + count_size ≤ room
  count_fits m =
      omega (arith, p, entry_in l.countblock count_per count_size (lit< tt) (lit≤ tt) l.profiles q m)

  pub point_fits : q < l.points
      → offset l.pointblock profile_point_per profile_point_size q + profile_point_size ≤ room
  point_fits m = omega (
    arith,
    p,
    entry_in l.pointblock profile_point_per profile_point_size (lit< tt) (lit≤ tt) l.points q m,
  )

-- and so do the frames of each run, in a list of the same length
module _ {k : PlanHeader} {l : PlanLayout} {long room : ℕ} (w : PlanWritable k l long)
    (same : room ≡ long) where
  abbrev p : PlanRoom l long
  p = plan_room_lem w

  pub header_room : FrameRoom 0 1 1 room
  header_room =
      record { pos = lit< tt; most = lit≤ tt; few = lit< tt; near = lit≤ tt; whole = omega (arith, p) }

  pub flags_room : FrameRoom 1 flag_per l.arcs room
  flags_room = record {
    pos = lit< tt;
    most = lit≤ tt;
    few = omega (arith, p);
    near = omega (arith, p);
    whole = omega (arith, p);
  }

  pub counts_room : FrameRoom l.countblock count_per l.profiles room
  counts_room = record {
    pos = lit< tt;
    most = lit≤ tt;
    few = omega (arith, p);
    near = omega (arith, p);
    whole = omega (arith, p);
  }

  pub points_room : FrameRoom l.pointblock profile_point_per l.points room
  points_room = record {
    pos = lit< tt;
    most = lit≤ tt;
    few = omega (arith, p);
    near = omega (arith, p);
    whole = omega (arith, p);
  }

-- FOR THE CODE, which has worked the place out: a point's two fields as one number
pub point_put : (s t : List ℕ) (o p : ℕ) → o ≡ p → (u : List ℕ) (x y : ℕ) → x < 65536 → t ≡ put 2 s o x
    → u ≡ put 4 t (o + 2) y → u ≡ put 6 s p (x + 65536 * y)
point_put s t o p e u x y l f g = rw (← e) (put_join 2 4 s t u o x y l f g)
