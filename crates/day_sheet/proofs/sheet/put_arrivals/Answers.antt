-- `day_sheet::sheet::put_arrivals` meets its contract.
use mathlib.Core.Path.{refl}
use Prim.Native.Nat.{zero-le}
use native.Mathlib.Omega.{arith}
use Rattle.theory_loops.specs.Fill.{fills, fill_up}
use Rattle.day_arrivals.proofs.Sheeting.{row_entry}
use borrow.Author.Rules.{rules}
use Rattle.day_sheet.proofs.sheet.put_arrivals.Goals as goal

pub loop-t-init : goal.loop-t-init
loop-t-init c = (search rules, search fills)

pub overflow_add-list-in-loop-t : goal.overflow_add-list-in-loop-t
overflow_add-list-in-loop-t c =
    omega (arith, c.requires.0.early c.loop-t.t c.loop-t-test.true)

pub loop-t-preserved : goal.loop-t-preserved
loop-t-preserved c = (
  search rules,
  fill_up _ _ 0 c.loop-t.t _ c.loop-t.list c.loop-t.invariant.1 zero-le (omega arith) (row_entry _ _ c.loop-t.t _ refl),
)

pub returns : goal.returns
returns c = search fills
