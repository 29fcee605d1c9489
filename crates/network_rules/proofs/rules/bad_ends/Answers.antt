-- `network_rules::rules::bad_ends` meets its contract.
use Rattle.theory_loops.specs.Pick.{picks}
use Rattle.network.specs.Rules.{bad_ends}
use Rattle.network_rules.proofs.rules.bad_ends.Goals as goal

pub returns-then-nodes-tail : goal.returns-then-nodes-tail
unfolding bad_ends
returns-then-nodes-tail c = search picks depth 8

pub returns-then-nodes-head : goal.returns-then-nodes-head
unfolding bad_ends
returns-then-nodes-head c = search picks depth 8

pub returns-then-tail-head : goal.returns-then-tail-head
unfolding bad_ends
returns-then-tail-head c = search picks depth 8

pub returns-then-count-lt1 : goal.returns-then-count-lt1
unfolding bad_ends
returns-then-count-lt1 c = search picks depth 8

pub returns : goal.returns
unfolding bad_ends
returns c = search picks depth 8
