-- `file_blocks::walk::Walk::next` meets its contract: the test picks the arm, as the definition does.
use native.Mathlib.{Nat.mul-le-mul_left, Omega.arith}
use Rattle.theory_loops.specs.Pick.{picks}
use Rattle.file_blocks.specs.Walk.{stepped}
use Rattle.file_blocks.proofs.walk.Walk.next.Goals as goal

pub overflow_add-result : goal.overflow_add-result
overflow_add-result c = omega (arith, mul-le-mul_left c.args.kind.size c.requires.0)

pub returns-then-self-gt1 : goal.returns-then-self-gt1
unfolding stepped
returns-then-self-gt1 c = search picks

pub overflow_add-result-2 : goal.overflow_add-result-2
overflow_add-result-2 c = omega (arith, mul-le-mul_left c.args.kind.size c.requires.0)

pub overflow_add-result-3 : goal.overflow_add-result-3
overflow_add-result-3 c = omega (arith, mul-le-mul_left c.args.kind.size c.requires.0)

pub returns : goal.returns
unfolding stepped
returns c = search picks
