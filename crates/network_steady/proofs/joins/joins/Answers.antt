-- `network_steady::joins::joins` meets its contract.
use mathlib.Core.Path.{◌∙◌}
use Rattle.theory_breaks.specs.Tally.{flag_of}
use Rattle.network_steady.specs.Joins.{join_of, signed, ends, minus}
use Rattle.network_steady.proofs.joins.joins.Goals as goal

pub returns : goal.returns
unfolding join_of signed ends minus
returns c = c.from.ensures ∙ flag_of _
