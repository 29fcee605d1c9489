use Rattle.travel_runs.specs.Fixed.{step_down}
use borrow.Author.Rules.{rules}
use Rattle.travel_runs.proofs.step_down.Goals as goal

pub returns : goal.returns
unfolding step_down
returns c = search rules
