-- `plan_rising::rising::is_kept` meets its contract.
use Rattle.std.proofs.Common.{◌+◌, ◌≤◌, arith}
use borrow.Author.{Rules.rules}
use Rattle.plan.specs.PlanDecode.{plan_small}
use Rattle.plan_rising.specs.Rising.{keeps}
use Rattle.plan_rising.proofs.rising.is_kept.Goals as goal

pub has_room-room-requires : goal.has_room-room-requires
has_room-room-requires c = (c.requires.from_le_points.0, c.requires.from_le_points.1, omega (arith, (plan_small c.requires.plan_laid).points_most))

pub returns-then-not-room : goal.returns-then-not-room
returns-then-not-room c = search keeps

pub returns-then-count-lt1 : goal.returns-then-count-lt1
returns-then-count-lt1 c =
    let room : (c.args.count ≤ c.args.l.period) × (c.args.from + c.args.count ≤ c.args.l.points) =
    c.has_room-room.ensures (c.if-not-room.false) in
    let (f, r) = room in search rules

pub tick-requires-clause-q_lt_points : goal.tick-requires-clause-q_lt_points
tick-requires-clause-q_lt_points c =
    let room : (c.args.count ≤ c.args.l.period) × (c.args.from + c.args.count ≤ c.args.l.points) =
    c.has_room-room.ensures (c.if-not-room.false) in
    omega (arith, room)

pub returns-then-tick-gt0 : goal.returns-then-tick-gt0
returns-then-tick-gt0 c = search keeps

pub overflow_add-from : goal.overflow_add-from
overflow_add-from c =
    let room : (c.args.count ≤ c.args.l.period) × (c.args.from + c.args.count ≤ c.args.l.points) =
    c.has_room-room.ensures (c.if-not-room.false) in
    let (f, r) = room in search rules

pub tick-requires-2-clause-q_lt_points : goal.tick-requires-2-clause-q_lt_points
tick-requires-2-clause-q_lt_points c =
    let room : (c.args.count ≤ c.args.l.period) × (c.args.from + c.args.count ≤ c.args.l.points) =
    c.has_room-room.ensures (c.if-not-room.false) in
    omega (arith, room)

pub returns : goal.returns
returns c =
    let room : (c.args.count ≤ c.args.l.period) × (c.args.from + c.args.count ≤ c.args.l.points) =
    c.has_room-room.ensures (c.if-not-room.false) in
    let (f, r) = room in search keeps
