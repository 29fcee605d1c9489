-- `dimacs_line::next::is_arc_start` meets its contract.
use borrow.Author.{Tests.eqb-true, Rules.rules}
use Rattle.dimacs_line.specs.Next.{false_true, starts_so}
use Rattle.dimacs_line.proofs.next.is_arc_start.Goals as goal

pub returns-then-text-at-lt-ARC_BYTES : goal.returns-then-text-at-lt-ARC_BYTES
returns-then-text-at-lt-ARC_BYTES c = false_true

pub returns-then-text-at-eq97 : goal.returns-then-text-at-eq97
returns-then-text-at-eq97 c = starts_so _ _ (search rules) (search rules)

pub returns-else-text-at-eq97 : goal.returns-else-text-at-eq97
returns-else-text-at-eq97 c = λ e. absurd (c.if-text-at-eq97.false (eqb-true _ _ e))
