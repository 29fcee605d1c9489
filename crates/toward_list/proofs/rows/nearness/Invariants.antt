-- `nearness` meets its contract: no entry passed is less.
use Prim.Native.Nat.{◌^◌, ◌<◌}
use Rattle.toward_list.specs.Places.{Lower}
use Rattle.toward_list.proofs.rows.nearness.Given as goal

abbrev pub invariant-loop-number : goal.invariant-loop-number
invariant-loop-number l = Lower l.p l.number-index l.work l.low × (l.low < 2 ^ 31)
