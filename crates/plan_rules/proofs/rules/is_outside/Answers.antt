-- `plan_rules::rules::is_outside` meets its contract: the first test decides, or leaves the answer to the
-- second.
use Rattle.theory_loops.specs.Pick.{picks}
use Rattle.plan_rules.proofs.rules.is_outside.Goals as goal

pub returns-then-t-low : goal.returns-then-t-low
returns-then-t-low c = search picks

pub returns : goal.returns
returns c = search picks
