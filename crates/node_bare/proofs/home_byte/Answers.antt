-- `node_bare::home_byte` meets its contract.
use Rattle.theory_loops.specs.Pick.{picks}
use Rattle.node_bare.proofs.home_byte.Goals as goal

pub returns-then-value-eq0 : goal.returns-then-value-eq0
returns-then-value-eq0 c = search picks

pub returns : goal.returns
returns c = search picks
