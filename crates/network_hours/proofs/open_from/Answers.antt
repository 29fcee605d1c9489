-- `network_hours::open_from` meets its contract.
use native.Mathlib.{Nat.mod-lt, Omega.arith}
use Rattle.theory_loops.specs.Pick.{picks}
use Rattle.network_hours.specs.Hours.{open_from}
use Rattle.network_hours.proofs.open_from.Goals as goal

pub returns-then-tick-opens : goal.returns-then-tick-opens
unfolding open_from
returns-then-tick-opens c = search picks

pub returns-then-tick-closes : goal.returns-then-tick-closes
unfolding open_from
returns-then-tick-closes c = search picks

pub overflow_sub-result-2 : goal.overflow_sub-result-2
overflow_sub-result-2 c = omega (arith, mod-lt c.args.x c.requires.0)

pub returns : goal.returns
unfolding open_from
returns c = search picks
