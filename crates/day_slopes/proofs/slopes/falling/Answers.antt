-- `day_slopes::slopes::falling` meets its contract.
use Prim.Native.Nat.{◌+◌}
use native.Mathlib.Omega.{arith}
use Rattle.day_slopes.specs.{Held.held_room, Falling.fall_end}
use Rattle.day_slopes.specs.Falling.{fall_start, fall_fits, fall_below, fall_within, fall_more}
use borrow.Author.Rules.{rules}
use Rattle.day_slopes.proofs.slopes.falling.Goals as goal

pub loop-j-init : goal.loop-j-init
loop-j-init c = (
  search rules,
  search rules,
  fall_start c.requires.room _ _ _ c.requires.w_lt_v.0 c.requires.w_lt_v.1
      c.step_down-step.ensures,
)

pub overflow_add-parts : goal.overflow_add-parts
overflow_add-parts c =
    fall_fits c.requires.room _ _ _ c.requires.w_lt_v.0 c.requires.w_lt_v.1
    c.step_down-step.ensures c.loop-j.j _ c.loop-j.invariant.1 (omega (arith, c.loop-j-test.true))

pub overflow_add-e : goal.overflow_add-e
overflow_add-e c =
    omega (
      arith,
      c.requires.room.last,
      fall_within c.requires.room _ _ _ c.requires.w_lt_v.0 c.requires.w_lt_v.1
          c.step_down-step.ensures (c.loop-j.j + 1) _ _ (omega (arith, c.loop-j.invariant.1))
          (omega (arith, c.loop-j-test.true)) c.wholes.ensures,
    )

pub put-requires : goal.put-requires
put-requires c =
    let r =
    held_room c.requires.room c.loop-j.invariant.2
    (fall_below c.requires.room _ _ _ c.requires.w_lt_v.0 c.requires.w_lt_v.1
    c.step_down-step.ensures c.loop-j.j (omega (arith, c.loop-j-test.true))) in (
      r.0,
      r.1,
      omega (
        arith,
        c.requires.room.last,
        fall_within c.requires.room _ _ _ c.requires.w_lt_v.0 c.requires.w_lt_v.1
            c.step_down-step.ensures (c.loop-j.j + 1) _ _
            (omega (arith, c.loop-j.invariant.1))
            (omega (arith, c.loop-j-test.true)) c.wholes.ensures,
      ),
    )

pub loop-j-preserved : goal.loop-j-preserved
loop-j-preserved c = (
  search rules,
  search rules,
  fall_more c.requires.room _ _ _ c.requires.w_lt_v.0 c.requires.w_lt_v.1
      c.step_down-step.ensures _ _
      _ _ c.loop-j.j c.loop-j.invariant.2 _ _ c.loop-j.invariant.1
      c.loop-j-test.true
      c.wholes.ensures
      c.put.ensures.0
      c.put.ensures.1,
)

pub put-requires-2 : goal.put-requires-2
put-requires-2 c =
    let r =
    held_room c.requires.room c.loop-j.invariant.2
    (fall_below c.requires.room _ _ _ c.requires.w_lt_v.0 c.requires.w_lt_v.1
    c.step_down-step.ensures c.loop-j.j (omega (arith, c.loop-j.invariant.0))) in
    (omega (arith, r.0, c.loop-j-test.false), omega (arith, r.1, c.loop-j-test.false), c.requires.room.last)

pub returns : goal.returns
returns c =
    fall_end c.requires.room _ _ _ c.requires.w_lt_v.0 c.requires.w_lt_v.1
    c.step_down-step.ensures _ _ _ _
    c.loop-j.j c.loop-j.invariant.2 c.loop-j.invariant.0
    c.loop-j-test.false
    c.put-2.ensures.0
    c.put-2.ensures.1
