-- `plan_rising::words::is_tick` meets its contract.
use mathlib.Core.Path.{◌∙◌}
use Rattle.theory_breaks.specs.Tally.{flag_of}
use Rattle.plan_rising.proofs.words.is_tick.Goals as goal

pub returns : goal.returns
returns c = c.from.ensures ∙ flag_of _
