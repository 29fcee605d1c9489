-- `plan_judge::target_at` meets its contract: the list has the border's node, and the file its cell.
use Rattle.plan_judge.specs.Finding.{listed_node, listed_aimed}
use borrow.Author.Rules.{rules}
use Rattle.plan_judge.proofs.target_at.Goals as goal

pub cell-requires-clause-v_lt_nodes : goal.cell-requires-clause-v_lt_nodes
cell-requires-clause-v_lt_nodes c = search listed_node

pub returns : goal.returns
returns c = (search rules, search listed_aimed)
