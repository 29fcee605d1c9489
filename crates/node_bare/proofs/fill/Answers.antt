-- `node_bare::fill` meets its contract.
use mathlib.Core.Path.{refl}
use native.Mathlib.Omega.{arith}
use Rattle.theory_loops.specs.Fill.{fill_none, fill_up, fill_end}
use borrow.Author.Rules.{rules}
use Rattle.node_bare.proofs.fill.Goals as goal

pub loop-x-init : goal.loop-x-init
loop-x-init c = (search rules, search rules, fill_none _ _ _)

pub bounds-marks-x : goal.bounds-marks-x
bounds-marks-x c = omega (arith, c.loop-x.invariant.2.long)

pub loop-x-preserved : goal.loop-x-preserved
loop-x-preserved c = (
  omega arith,
  omega arith,
  fill_up _ _ _ _ _ _ c.loop-x.invariant.2 c.loop-x.invariant.0 (omega arith) refl,
)

pub returns : goal.returns
returns c = fill_end _ _ _ _ _ _ c.loop-x.invariant.2 c.loop-x.invariant.1 c.loop-x-test.false
