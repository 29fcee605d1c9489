-- `network_rules::rules::bad_hours` meets its contract.
use Rattle.theory_loops.specs.Pick.{picks}
use Rattle.network.specs.Rules.{bad_hours}
use Rattle.network_rules.proofs.rules.bad_hours.Goals as goal

pub returns-then-closes-opens : goal.returns-then-closes-opens
unfolding bad_hours
returns-then-closes-opens c = search picks depth 8

pub returns-then-period-closes : goal.returns-then-period-closes
unfolding bad_hours
returns-then-period-closes c = search picks depth 8

pub returns : goal.returns
unfolding bad_hours
returns c = search picks depth 8
