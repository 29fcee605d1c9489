-- `show_wanted` meets its contract: one row is wanted, or all are.
use Rattle.toward_list.specs.Seen.{wanted_one, wanted_all}
use borrow.Author.Rules.{rules}
use Rattle.toward_list.proofs.rows.show_wanted.Goals as goal

pub returns-then-goal-l : goal.returns-then-goal-l
returns-then-goal-l c = search (wanted_one, rules)

pub returns : goal.returns
returns c = search (wanted_all, rules)
