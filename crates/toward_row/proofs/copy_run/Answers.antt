-- `toward_row::copy_run` meets its contract: the entries passed are copied.
use Prim.Native.Nat.{◌+◌, ◌-◌, ◌<◌}
use native.Mathlib.Omega.{arith}
use Rattle.theory_loops.specs.Fill.{fills}
use Rattle.toward_row.specs.Lower.{copies}
use borrow.Author.Rules.{rules}
use Rattle.toward_row.proofs.copy_run.Goals as goal

pub loop-x-init : goal.loop-x-init
loop-x-init c = (search rules, search rules, search fills)

pub overflow_add-row-in-loop-x : goal.overflow_add-row-in-loop-x
overflow_add-row-in-loop-x c =
    let h : c.args.from + (c.loop-x.x - c.args.a) < c.args.from + (c.args.b - c.args.a) = omega arith in
    omega (arith, c.requires.capped.entry _ h)

pub loop-x-preserved : goal.loop-x-preserved
loop-x-preserved c = (search rules, search rules, search copies)

pub returns : goal.returns
returns c = search copies
