use Rattle.travel_runs.specs.Fixed.{step_up}
use borrow.Author.Rules.{rules}
use Rattle.travel_runs.proofs.step_up.Goals as goal

pub returns : goal.returns
unfolding step_up
returns c = search rules
