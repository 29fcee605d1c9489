-- `toward_node::rows::lower` meets its contract.
use mathlib.Core.Path.{sym, ◌∙◌}
use borrow.Author.{Tests.ltb-true, Tests.ltb-false}
use Rattle.toward_row.specs.Lower.{least_left, least_right}
use Rattle.toward_list.proofs.rows.lower.Goals as goal

pub returns-then-is_before : goal.returns-then-is_before
returns-then-is_before c = least_right _ _ (ltb-true _ _ (sym c.is_before.ensures ∙ c.if-is_before.true))

pub returns-else-is_before : goal.returns-else-is_before
returns-else-is_before c = least_left _ _ (ltb-false _ _ (sym c.is_before.ensures ∙ c.if-is_before.false))
