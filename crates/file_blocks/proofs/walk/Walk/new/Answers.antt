-- `file_blocks::walk::Walk::new` meets its contract.
use native.Mathlib.{Nat.mod-lt, Omega.arith}
use Rattle.file_blocks.proofs.walk.Walk.new.Goals as goal

pub overflow_sub-result : goal.overflow_sub-result
overflow_sub-result c = omega (arith, mod-lt c.args.i c.requires.0)

pub returns : goal.returns
returns c = rw c.offset.ensures
