-- `dimacs_line::next::arc_at` meets its contract.
use borrow.Author.{Tests.not-false, Rules.rules}
use Rattle.dimacs_line.specs.Next.{arc_next}
use Rattle.dimacs_line.proofs.next.arc_at.Goals as goal

pub returns : goal.returns
returns c = arc_next _ _ _ _ _ _ _ _ c.requires c.number_at-tail.ensures
    (c.is_ended.ensures (search (rules, not-false))) c.number_at-head.ensures
    (c.is_ended-2.ensures (search (rules, not-false))) c.number_at-weight.ensures
    (c.is_ended-3.ensures (search (rules, not-false)))
