-- `search_labels::reach::head_of` meets its contract: the table has the arc's head.
use mathlib.Core.Path.{◌∙◌}
use native.Mathlib.Omega.{arith}
use Rattle.search_labels.proofs.reach.head_of.Goals as goal

pub returns : goal.returns
returns c = (
  c.from.ensures ∙ c.requires.ready.head_at _ c.requires.arc_lt_arcs,
  omega (arith, c.from.ensures, c.fits-heads c.args.arc),
)
