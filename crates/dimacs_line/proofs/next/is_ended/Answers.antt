-- `dimacs_line::next::is_ended` meets its contract.
use native.Mathlib.Omega.{arith}
use borrow.Author.{Tests.ltb-true, Rules.rules}
use Rattle.dimacs_line.specs.Next.{ended_so}
use Rattle.dimacs_line.proofs.next.is_ended.Goals as goal

pub returns-then-from-end : goal.returns-then-from-end
returns-then-from-end c = ended_so _ _ _ _ (search rules)

pub returns-else-from-end : goal.returns-else-from-end
returns-else-from-end c = λ e. absurd (omega (arith, ltb-true c.args.from c.args.end e))
