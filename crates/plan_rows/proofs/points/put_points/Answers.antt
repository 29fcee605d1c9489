use mathlib.Core.Path.{◌≡◌, refl}
use Prim.Native.Nat.{◌+◌, ◌-◌, ◌≤◌}
use native.Mathlib.Omega.{arith}
use lib.ListN.{length}
use Rattle.plan_rows.specs.Points.{all_room, first_room, first_put, put_join, put_end, room_kept}
use Rattle.plan_rows.specs.Points.{part_room, step_last}
use Rattle.plan_rows.proofs.points.put_points.Goals as goal

pub put_point-requires-clause-plan_room : goal.put_point-requires-clause-plan_room
put_point-requires-clause-plan_room c = c.requires.low.1

pub put_point-requires-clause-q_lt_points : goal.put_point-requires-clause-q_lt_points
put_point-requires-clause-q_lt_points c = first_room c.args.k c.args.row.now c.args.q c.requires.low.0.some
    c.requires.row_bound

pub returns-then-last-eq0 : goal.returns-then-last-eq0
returns-then-last-eq0 c =
    put_end
    (first_put c.args.k c.args.row.now c.args.q c.requires.low.0.some c.requires.row_bound refl (omega arith)
    c.put_point.ensures) (omega (arith, c.requires.low.0.some)) (omega arith)

pub put_parts-next-requires-clause-low : goal.put_parts-next-requires-clause-low
put_parts-next-requires-clause-low c =
    let first = first_put c.args.k c.args.row.now c.args.q c.requires.low.0.some c.requires.row_bound refl
    (omega arith)
    c.put_point.ensures in
    let last : 1 ≤ length c.args.row.now - 1 = omega arith in
    let below : length c.args.row.now - 1 ≤ length c.args.row.now = omega arith in
    (c.requires.low.0, room_kept c.requires.low.1 first)

pub put_parts-next-requires-clause-le_last : goal.put_parts-next-requires-clause-le_last
put_parts-next-requires-clause-le_last c =
    let first = first_put c.args.k c.args.row.now c.args.q c.requires.low.0.some c.requires.row_bound refl
    (omega arith)
    c.put_point.ensures in
    let last : 1 ≤ length c.args.row.now - 1 = omega arith in
    let below : length c.args.row.now - 1 ≤ length c.args.row.now = omega arith in (
      last,
      omega (arith, c.requires.low.0.some),
      part_room (length c.args.row.now - 1) (length c.args.row.now) first (omega arith) last below
          (all_room c.args.k c.args.row.now c.args.q c.requires.low.0.some c.requires.row_bound),
    )

pub turn-turned-requires : goal.turn-turned-requires
turn-turned-requires c = (
  c.requires.low.0.entry _ (omega arith),
  c.requires.low.0.entry _ (omega arith),
  c.requires.low.0.entry
      0 c.requires.low.0.some,
)

pub put_tick-requires-clause-low : goal.put_tick-requires-clause-low
put_tick-requires-clause-low c =
    let first = first_put c.args.k c.args.row.now c.args.q c.requires.low.0.some c.requires.row_bound refl
    (omega arith)
    c.put_point.ensures in
    let parts = put_join first c.put_parts-next.ensures
    in
    let at : length c.args.row.now - 1 + 1 ≡ length c.args.row.now = omega (arith, c.requires.low.0.some) in
    let after : 1 ≤ length c.args.row.now - 1 = omega arith in
    let e = step_last c.args.row.now (length c.args.row.now - 1) _ after at c.turn-turned.ensures in
    let up : length c.args.row.now - 1 ≤ length c.args.row.now - 1 + 1 = omega arith in
    let to : length c.args.row.now - 1 + 1 ≤ length c.args.row.now = omega arith in
    let room =
    part_room (length c.args.row.now - 1 + 1) (length c.args.row.now) parts (omega arith) up to
    (all_room c.args.k c.args.row.now c.args.q c.requires.low.0.some c.requires.row_bound) in
    (c.requires.low.0, room_kept c.requires.low.1 parts)

pub put_tick-requires-clause-x_in_bounds : goal.put_tick-requires-clause-x_in_bounds
put_tick-requires-clause-x_in_bounds c =
    let first = first_put c.args.k c.args.row.now c.args.q c.requires.low.0.some c.requires.row_bound refl
    (omega arith)
    c.put_point.ensures in
    let parts = put_join first c.put_parts-next.ensures
    in
    let at : length c.args.row.now - 1 + 1 ≡ length c.args.row.now = omega (arith, c.requires.low.0.some) in
    let after : 1 ≤ length c.args.row.now - 1 = omega arith in
    let e = step_last c.args.row.now (length c.args.row.now - 1) _ after at c.turn-turned.ensures in
    let up : length c.args.row.now - 1 ≤ length c.args.row.now - 1 + 1 = omega arith in
    let to : length c.args.row.now - 1 + 1 ≤ length c.args.row.now = omega arith in
    let room =
    part_room (length c.args.row.now - 1 + 1) (length c.args.row.now) parts (omega arith) up to
    (all_room c.args.k c.args.row.now c.args.q c.requires.low.0.some c.requires.row_bound) in
    (omega arith, omega (arith, e, room), e)

pub returns : goal.returns
returns c =
    let first = first_put c.args.k c.args.row.now c.args.q c.requires.low.0.some c.requires.row_bound refl
    (omega arith)
    c.put_point.ensures in
    let parts = put_join first c.put_parts-next.ensures in
    put_end (put_join parts c.put_tick.ensures) (omega (arith, c.requires.low.0.some))
    (omega (arith, c.requires.low.0.some))
