-- `dimacs_text::judge::judge` meets its contract.
use Rattle.dimacs_text.specs.Noting.{judged_into}
use Rattle.dimacs_text.proofs.judge.judge.Goals as goal

pub returns : goal.returns
returns c = judged_into _ _ _ _ c.read.ensures.0 c.read.ensures.1 c.judged.ensures
