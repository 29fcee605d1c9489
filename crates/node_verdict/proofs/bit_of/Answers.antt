-- `node_verdict::bit_of` meets its contract.
use Rattle.theory_loops.specs.Pick.{picks}
use Rattle.node_verdict.proofs.bit_of.Goals as goal

pub returns-then-number-eq-BORDER : goal.returns-then-number-eq-BORDER
returns-then-number-eq-BORDER c = search picks

pub returns-then-number-eq-LESS : goal.returns-then-number-eq-LESS
returns-then-number-eq-LESS c = search picks

pub returns-then-number-eq-NO_ROAD : goal.returns-then-number-eq-NO_ROAD
returns-then-number-eq-NO_ROAD c = search picks

pub returns : goal.returns
returns c = search picks
