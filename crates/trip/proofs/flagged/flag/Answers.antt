-- `trip::flagged::flag` meets its contract.
use mathlib.Core.Path.{ap, ◌∙◌}
use Rattle.theory_breaks.specs.Tally.{flag, flag_of}
use Rattle.trip.proofs.flagged.flag.Goals as goal

pub returns : goal.returns
returns c = c.from.ensures ∙ (flag_of _ ∙ ap flag c.is_set.ensures)
