-- `network_rules::rules::is_part_of_day` meets its contract.
use Rattle.theory_loops.specs.Pick.{picks}
use Rattle.network.specs.Rules.{part_of_day}
use Rattle.network_rules.proofs.rules.is_part_of_day.Goals as goal

pub returns-then-hours-ne0 : goal.returns-then-hours-ne0
unfolding part_of_day
returns-then-hours-ne0 c = search picks depth 8

pub returns-then-opens-ne0 : goal.returns-then-opens-ne0
unfolding part_of_day
returns-then-opens-ne0 c = search picks depth 8

pub returns : goal.returns
unfolding part_of_day
returns c = search picks depth 8
