-- `day_slopes::slopes::rising` meets its contract.
use native.Mathlib.Omega.{arith}
use Rattle.day_slopes.specs.{Held.held_room, Rising.rise_end}
use Rattle.day_slopes.specs.Rising.{rise_start, rise_fits, rise_below, rise_within, rise_more}
use borrow.Author.Rules.{rules}
use Rattle.day_slopes.proofs.slopes.rising.Goals as goal

pub loop-j-init : goal.loop-j-init
loop-j-init c = (
  search rules,
  search rules,
  rise_start c.requires.room _ _ _ c.requires.v_lt_w.0 c.requires.v_lt_w.1
      c.step_up-step.ensures,
)

pub overflow_add-e-in-loop-j : goal.overflow_add-e-in-loop-j
overflow_add-e-in-loop-j c =
    omega (
      arith,
      c.requires.room.last,
      rise_within c.requires.room _ _ _ c.requires.v_lt_w.0 c.requires.v_lt_w.1
          c.step_up-step.ensures c.loop-j.j _ _ c.loop-j.invariant.1 c.loop-j-test.true
          c.wholes.ensures,
    )

pub put-requires : goal.put-requires
put-requires c =
    let r =
    held_room c.requires.room c.loop-j.invariant.2
    (rise_below c.requires.room _ _ _ c.requires.v_lt_w.0 c.requires.v_lt_w.1
    c.step_up-step.ensures c.loop-j.j (omega (arith, c.loop-j-test.true))) in (
      r.0,
      r.1,
      omega (
        arith,
        c.requires.room.last,
        rise_within c.requires.room _ _ _ c.requires.v_lt_w.0 c.requires.v_lt_w.1
            c.step_up-step.ensures c.loop-j.j _ _ c.loop-j.invariant.1 c.loop-j-test.true
            c.wholes.ensures,
      ),
    )

pub overflow_add-parts : goal.overflow_add-parts
overflow_add-parts c =
    rise_fits c.requires.room _ _ _ c.requires.v_lt_w.0 c.requires.v_lt_w.1
    c.step_up-step.ensures
    c.loop-j.j _ c.loop-j.invariant.1 c.loop-j-test.true

pub loop-j-preserved : goal.loop-j-preserved
loop-j-preserved c = (
  search rules,
  search rules,
  rise_more c.requires.room _ _ _ c.requires.v_lt_w.0 c.requires.v_lt_w.1
      c.step_up-step.ensures _ _ c.loop-j.j c.loop-j.invariant.2 _ _ _ _ c.loop-j.invariant.1
      c.loop-j-test.true
      c.wholes.ensures
      c.put.ensures.0
      c.put.ensures.1,
)

pub returns : goal.returns
returns c =
    rise_end c.requires.room _ _ _ c.requires.v_lt_w.0 c.requires.v_lt_w.1
    c.step_up-step.ensures _ _ c.loop-j.j
    c.loop-j.invariant.2 c.loop-j.invariant.0 c.loop-j-test.false
