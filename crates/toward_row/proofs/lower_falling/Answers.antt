-- `toward_row::lower_falling` meets its contract: before tick x all is lowered, and run j begins there.
use Prim.Native.Nat.{◌+◌, ◌≤◌}
use native.Mathlib.Omega.{arith}
use Rattle.toward_row.specs.{Lower.known_on}
use Rattle.toward_row.specs.Pieces.{fall_run, falls}
use borrow.Author.Rules.{rules}
use Rattle.toward_row.proofs.lower_falling.Goals as goal

pub loop-j-init : goal.loop-j-init
loop-j-init c = (search rules, search falls, search falls)

pub overflow_add-parts : goal.overflow_add-parts
overflow_add-parts c = search falls

pub overflow_add-e : goal.overflow_add-e
overflow_add-e c =
    let h : c.args.a + c.wholes.result ≤ c.args.b = search falls in
    omega arith

pub lower_span-count-requires-clause-a_le_b : goal.lower_span-count-requires-clause-a_le_b
lower_span-count-requires-clause-a_le_b c = let e = c.args.a + c.wholes.result in
    let h : e ≤ c.args.b = search falls in
    let l : c.loop-j.x ≤ e = search falls in
    let m : c.args.a ≤ c.loop-j.x = omega (arith, c.loop-j.invariant.1.at) in
    (l, omega arith, omega arith, omega arith, omega arith)

pub lower_span-count-requires-clause-capped : goal.lower_span-count-requires-clause-capped
lower_span-count-requires-clause-capped c = let e = c.args.a + c.wholes.result in
    let h : e ≤ c.args.b = search falls in
    let l : c.loop-j.x ≤ e = search falls in
    let m : c.args.a ≤ c.loop-j.x = omega (arith, c.loop-j.invariant.1.at) in
    (c.requires.ready.capped, known_on c.requires.ready.known c.loop-j.invariant.2.filled m h)

pub overflow_add-count : goal.overflow_add-count
overflow_add-count c =
    let h : c.args.a + c.wholes.result ≤ c.args.b = search falls in
    let l : c.loop-j.x ≤ c.args.a + c.wholes.result = search falls in
    omega (
      arith,
      c.loop-j.invariant.2.few,
      c.lower_span-count.ensures.few,
      c.requires.ready.within,
      c.requires.ready.short,
    )

pub loop-j-preserved : goal.loop-j-preserved
loop-j-preserved c = (
  search rules,
  search falls,
  fall_run c.requires.ready c.requires.w_lt_v
      c.step_down-step.ensures c.loop-j.invariant.1
      c.loop-j-test.true
      c.wholes.ensures c.loop-j.invariant.2
      c.lower_span-count.ensures,
)

pub returns : goal.returns
returns c = search falls
