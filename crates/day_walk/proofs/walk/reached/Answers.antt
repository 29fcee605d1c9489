-- `day_walk::walk::reached` meets its contract.
use Rattle.day_walk.specs.Walk.{reached_is}
use Rattle.day_walk.proofs.walk.reached.Goals as goal

pub returns : goal.returns
returns c = rw c.from.ensures (reached_is c.args.a c.args.b)
