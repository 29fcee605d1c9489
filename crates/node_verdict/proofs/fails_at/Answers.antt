-- `node_verdict::fails_at` meets its contract.
use Rattle.node_verdict.specs.Lowest.{tells}
use Rattle.node_verdict.proofs.fails_at.Goals as goal

pub returns : goal.returns
unfolding tells
returns c = rw c.bit_of.ensures
