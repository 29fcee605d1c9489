-- `highest` meets its contract: no entry passed is greater, and one is the greatest.
use Rattle.toward_list.specs.Places.{Upper}
use Rattle.toward_list.proofs.rows.highest.Given as goal

abbrev pub invariant-loop-number : goal.invariant-loop-number
invariant-loop-number l = Upper l.p l.number-index l.fn.l.period l.work l.high
