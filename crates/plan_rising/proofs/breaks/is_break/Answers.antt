-- `plan_rising::breaks::is_break` meets its contract.
use Rattle.plan_rising.specs.Falls.{words_fall}
use Rattle.plan_rising.proofs.breaks.is_break.Goals as goal

pub returns : goal.returns
returns c = words_fall _ _ c.ranges.t.fits c.ranges.before.fits c.from.ensures
