-- `network_steady::closes::is_unclosed` meets its contract.
use Rattle.theory_loops.specs.Pick.{picks}
use Rattle.network_steady.specs.Closes.{unclosed}
use Rattle.network_steady.proofs.closes.is_unclosed.Goals as goal

pub returns-then-t-gt0 : goal.returns-then-t-gt0
unfolding unclosed
returns-then-t-gt0 c = search picks depth 8

pub returns-then-v-lt1 : goal.returns-then-v-lt1
unfolding unclosed
returns-then-v-lt1 c = search picks depth 8

pub returns-then-period-v : goal.returns-then-period-v
unfolding unclosed
returns-then-period-v c = search picks depth 8

pub returns-then-period-u : goal.returns-then-period-u
unfolding unclosed
returns-then-period-u c = search picks depth 8

pub returns : goal.returns
unfolding unclosed
returns c = search picks depth 8
