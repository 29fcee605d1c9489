-- `toward_row::lower_rising` meets its contract: after the first tick all is lowered before tick x, and the
-- run after run j begins there.
use Prim.Native.Nat.{ℕ, ◌+◌, ◌-◌, ◌<◌}
use native.Mathlib.Omega.{arith}
use Rattle.toward_row.specs.{Cut.cut_none, Pieces.rise_rises}
use Rattle.toward_row.specs.Lower.{known_part, known_on}
use Rattle.toward_row.specs.Pieces.{rise_start, rise_still, rise_fits, rise_within}
use Rattle.toward_row.specs.Pieces.{rise_next, rise_run, rise_end}
use borrow.Author.Rules.{rules}
use Rattle.toward_row.proofs.lower_rising.Goals as goal

-- the measure falls
shrinks : (n j : ℕ) → j < n → n - (j + 1) < n - j
shrinks n j h = omega arith

pub lower_span-begun-requires-clause-a_le_b : goal.lower_span-begun-requires-clause-a_le_b
lower_span-begun-requires-clause-a_le_b c = (
  search rules,
  omega arith,
  search rules,
  search rules,
  search
      rules,
)

pub lower_span-begun-requires-clause-capped : goal.lower_span-begun-requires-clause-capped
lower_span-begun-requires-clause-capped c = (
  c.requires.ready.capped,
  known_part c.requires.ready.known
      (omega (arith, c.requires.ready.apart)),
)

pub loop-j-init : goal.loop-j-init
loop-j-init c = (
  search rules,
  rise_start c.requires.ready
      c.requires.v_lt_w,
  search cut_none,
)

pub overflow_add-parts : goal.overflow_add-parts
overflow_add-parts c =
    rise_fits c.requires.ready c.requires.v_lt_w c.loop-j.invariant.1
    c.step_up-step.ensures c.loop-j-test.true

pub overflow_add-e-in-loop-j : goal.overflow_add-e-in-loop-j
overflow_add-e-in-loop-j c =
    omega (
      arith,
      rise_within c.requires.ready c.requires.v_lt_w c.loop-j.invariant.1
          c.step_up-step.ensures
          c.loop-j-test.true c.wholes.ensures,
    )

pub lower_span-count-requires-clause-a_le_b : goal.lower_span-count-requires-clause-a_le_b
lower_span-count-requires-clause-a_le_b c =
    let h = rise_within c.requires.ready c.requires.v_lt_w c.loop-j.invariant.1 c.step_up-step.ensures
    c.loop-j-test.true c.wholes.ensures in
    let k = rise_rises c.requires.ready c.requires.v_lt_w c.loop-j.invariant.1 c.step_up-step.ensures
    c.loop-j-test.true c.wholes.ensures in
    let known = known_on {e = c.args.b} c.requires.ready.known c.lower_span-begun.ensures.filled
    (omega arith) (omega arith) in
    (k, omega arith, omega arith, omega arith, omega arith)

pub lower_span-count-requires-clause-capped : goal.lower_span-count-requires-clause-capped
lower_span-count-requires-clause-capped c =
    let h = rise_within c.requires.ready c.requires.v_lt_w c.loop-j.invariant.1 c.step_up-step.ensures
    c.loop-j-test.true c.wholes.ensures in
    let k = rise_rises c.requires.ready c.requires.v_lt_w c.loop-j.invariant.1 c.step_up-step.ensures
    c.loop-j-test.true c.wholes.ensures in
    let known = known_on {e = c.args.b} c.requires.ready.known c.lower_span-begun.ensures.filled
    (omega arith) (omega arith) in (
      c.requires.ready.capped,
      known_on known c.loop-j.invariant.2.filled
          (omega (arith, c.loop-j.invariant.1.at)) h,
    )

pub overflow_add-count : goal.overflow_add-count
overflow_add-count c =
    let h = rise_within c.requires.ready c.requires.v_lt_w c.loop-j.invariant.1
    c.step_up-step.ensures c.loop-j-test.true
    c.wholes.ensures in
    let k = rise_rises c.requires.ready c.requires.v_lt_w c.loop-j.invariant.1
    c.step_up-step.ensures c.loop-j-test.true
    c.wholes.ensures in
    omega (
      arith,
      h,
      k,
      c.loop-j.invariant.2.few,
      c.lower_span-count.ensures.few,
      c.requires.ready.within,
      c.requires.ready.short,
    )

pub loop-j-smaller : goal.loop-j-smaller
loop-j-smaller c = shrinks _ _ c.loop-j-test.true

pub loop-j-preserved : goal.loop-j-preserved
loop-j-preserved c = (
  search rules,
  rise_next c.requires.ready c.requires.v_lt_w c.loop-j.invariant.1
      c.step_up-step.ensures c.loop-j-test.true
      c.wholes.ensures,
  rise_run c.requires.ready c.requires.v_lt_w c.loop-j.invariant.1
      c.step_up-step.ensures c.loop-j-test.true
      c.wholes.ensures c.loop-j.invariant.2
      c.lower_span-count.ensures,
)

pub lower_span-ended-requires-clause-a_le_b : goal.lower_span-ended-requires-clause-a_le_b
lower_span-ended-requires-clause-a_le_b c =
    let known = known_on {e = c.args.b} c.requires.ready.known c.lower_span-begun.ensures.filled
    (omega arith) (omega arith) in (
      rise_still c.requires.ready c.requires.v_lt_w c.loop-j.invariant.1 c.loop-j.invariant.0,
      omega arith,
      omega arith,
      omega arith,
      omega arith,
    )

pub lower_span-ended-requires-clause-capped : goal.lower_span-ended-requires-clause-capped
lower_span-ended-requires-clause-capped c =
    let known = known_on {e = c.args.b} c.requires.ready.known c.lower_span-begun.ensures.filled
    (omega arith) (omega arith) in (
      c.requires.ready.capped,
      known_on known c.loop-j.invariant.2.filled
          (omega (arith, c.loop-j.invariant.1.at)) (omega arith),
    )

pub overflow_add-result : goal.overflow_add-result
overflow_add-result c =
    let h = rise_still c.requires.ready c.requires.v_lt_w c.loop-j.invariant.1 c.loop-j.invariant.0 in
    omega (
      arith,
      h,
      c.loop-j.invariant.2.few,
      c.lower_span-ended.ensures.few,
      c.requires.ready.within,
      c.requires.ready.short,
    )

pub overflow_add-result-2 : goal.overflow_add-result-2
overflow_add-result-2 c =
    let h = rise_still c.requires.ready c.requires.v_lt_w c.loop-j.invariant.1 c.loop-j.invariant.0 in
    omega (
      arith,
      h,
      c.loop-j.invariant.2.few,
      c.lower_span-begun.ensures.few,
      c.lower_span-ended.ensures.few,
      c.requires.ready.within,
      c.requires.ready.short,
    )

pub returns : goal.returns
returns c =
    rise_end c.requires.ready c.requires.v_lt_w c.loop-j.invariant.1 c.loop-j.invariant.0
    c.loop-j-test.false
    c.lower_span-begun.ensures c.loop-j.invariant.2
    c.lower_span-ended.ensures
