use mathlib.Core.Path.{refl}
use Prim.Native.Nat.{◌+◌, ◌≤◌, ◌<◌}
use native.Mathlib.Omega.{arith}
use lib.ListN.{length}
use Rattle.plan_rows.specs.Points.{put_none, put_join, put_end, room_kept, part_room}
use Rattle.plan_rows.specs.Points.{step_in}
use borrow.Author.Rules.{rules}
use Rattle.plan_rows.proofs.points.put_each.Goals as goal

pub loop-x-init : goal.loop-x-init
loop-x-init c = (search rules, search rules, put_none refl)

pub turn-turned-requires : goal.turn-turned-requires
turn-turned-requires c =
    let h : c.loop-x.x + 1 < length c.args.row.now = omega arith in (
      c.requires.low.0.entry _ (omega arith),
      c.requires.low.0.entry _ (omega arith),
      c.requires.low.0.entry
          _ h,
    )

pub put_tick-at-requires-clause-low : goal.put_tick-at-requires-clause-low
put_tick-at-requires-clause-low c = let h : c.loop-x.x + 1 < length c.args.row.now = omega arith in
    let e = step_in c.args.row.now c.loop-x.x _ (omega arith) h c.turn-turned.ensures in
    let m : c.loop-x.x ≤ c.loop-x.x + 1 = omega arith in
    let n : c.loop-x.x + 1 ≤ c.args.b = omega arith in
    (c.requires.low.0, room_kept c.requires.low.1 c.loop-x.invariant.2)

pub put_tick-at-requires-clause-x_in_bounds : goal.put_tick-at-requires-clause-x_in_bounds
put_tick-at-requires-clause-x_in_bounds c = let h : c.loop-x.x + 1 < length c.args.row.now = omega arith in
    let e = step_in c.args.row.now c.loop-x.x _ (omega arith) h c.turn-turned.ensures in
    let m : c.loop-x.x ≤ c.loop-x.x + 1 = omega arith in
    let n : c.loop-x.x + 1 ≤ c.args.b = omega arith in
    let room = part_room (c.loop-x.x + 1) c.args.b c.loop-x.invariant.2 c.loop-x.invariant.0 m n
    c.requires.le_a.3 in
    (omega arith, omega (arith, e, room), e)

pub loop-x-preserved : goal.loop-x-preserved
loop-x-preserved c = (
  omega arith,
  omega arith,
  put_join c.loop-x.invariant.2
      c.put_tick-at.ensures,
)

pub shape_of-out : goal.shape_of-out
shape_of-out c = c.loop-x.invariant.2.long

pub returns : goal.returns
returns c =
    put_end c.loop-x.invariant.2 c.loop-x.invariant.1 c.loop-x-test.false
