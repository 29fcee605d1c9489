-- `search_labels::reach::start` meets its contract: a list of never with the departure put in at the source.
use mathlib.Core.Path.{refl}
use Rattle.search_labels.specs.Reach.{started}
use Rattle.search_labels.proofs.reach.start.Goals as goal

pub returns : goal.returns
returns c = started _ _ _ c.args.labels.now _ refl c.requires (c.fill.ensures.after (λ y e. e))
