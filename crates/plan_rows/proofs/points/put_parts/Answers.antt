use mathlib.Core.Path.{refl}
use native.Mathlib.{Nat.le_of_lt, Omega.arith}
use Rattle.plan_rows.specs.Points.{put_none, put_join, put_end, room_kept, part_room}
use borrow.Author.Rules.{rules}
use Rattle.plan_rows.proofs.points.put_parts.Goals as goal

pub loop-x-init : goal.loop-x-init
loop-x-init c = (search rules, search rules, put_none refl)

pub put_part-at-requires-clause-low : goal.put_part-at-requires-clause-low
put_part-at-requires-clause-low c = (c.requires.low.0, room_kept c.requires.low.1 c.loop-x.invariant.2)

pub put_part-at-requires-clause-le_a : goal.put_part-at-requires-clause-le_a
put_part-at-requires-clause-le_a c = (
  omega arith,
  omega arith,
  omega arith,
  part_room _ c.args.last c.loop-x.invariant.2 c.loop-x.invariant.0 (le_of_lt c.part_end-e.ensures.0)
      c.part_end-e.ensures.1 c.requires.le_last.2,
)

pub loop-x-preserved : goal.loop-x-preserved
loop-x-preserved c = (
  omega arith,
  omega arith,
  put_join c.loop-x.invariant.2 c.put_part-at.ensures,
)

pub shape_of-out : goal.shape_of-out
shape_of-out c = c.loop-x.invariant.2.long

pub returns : goal.returns
returns c =
    put_end c.loop-x.invariant.2 c.loop-x.invariant.1 c.loop-x-test.false
