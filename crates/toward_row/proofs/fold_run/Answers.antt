-- `toward_row::fold_run` meets its contract: the entries passed are lowered, and the one at hand is the old
-- one.
use Prim.Native.Nat.{◌+◌, ◌-◌, ◌<◌}
use native.Mathlib.Omega.{arith}
use Rattle.toward_row.specs.{Lower.runs}
use borrow.Author.Rules.{rules}
use Rattle.toward_row.proofs.fold_run.Goals as goal

pub loop-x-init : goal.loop-x-init
loop-x-init c = (search rules, search rules, search runs)

pub lesser-new-requires : goal.lesser-new-requires
lesser-new-requires c =
    let h : c.args.from + (c.loop-x.x - c.args.a) < c.args.from + (c.args.b - c.args.a) = omega arith in
    let was = c.loop-x.invariant.2.filled.after c.loop-x.x (omega arith) in (
      omega (
        arith,
        was,
        c.requires.capped.1.entry c.loop-x.x (omega (arith, c.loop-x.invariant.0))
            (omega arith),
      ),
      omega (arith, c.requires.capped.0.entry _ h),
    )

pub loop-x-preserved : goal.loop-x-preserved
loop-x-preserved c = (search rules, search rules, search runs)

pub returns : goal.returns
returns c = search runs
