-- `dimacs_line::next::next_line` meets its contract.
use Rattle.dimacs_line.specs.Next.{remark_next}
use borrow.Author.Rules.{rules}
use Rattle.dimacs_line.proofs.next.next_line.Goals as goal

pub returns-then-text-at-eq99 : goal.returns-then-text-at-eq99
returns-then-text-at-eq99 c = remark_next _ _ _ (search rules) (search rules) c.line_end.ensures

pub arc_at-requires : goal.arc_at-requires
arc_at-requires c = c.is_arc_start.ensures (search rules)
