-- `toward_row::lower_span` meets its contract: the run is today's, tomorrow's, or both.
use native.Mathlib.Omega.{arith}
use Rattle.toward_row.specs.Lower.{spans, capped_part, known_part, known_on}
use borrow.Author.Rules.{rules}
use Rattle.toward_row.proofs.lower_span.Goals as goal

pub lower_run-requires-clause-a_le_b : goal.lower_run-requires-clause-a_le_b
lower_run-requires-clause-a_le_b c = search rules

pub lower_run-requires-clause-capped : goal.lower_run-requires-clause-capped
lower_run-requires-clause-capped c = (capped_part c.requires.capped.0 (omega arith), c.requires.capped.1)

pub returns-then-b-next : goal.returns-then-b-next
returns-then-b-next c = search spans

pub lower_run-requires-then-next-a-clause-a_le_b : goal.lower_run-requires-then-next-a-clause-a_le_b
lower_run-requires-then-next-a-clause-a_le_b c = search rules

pub lower_run-requires-then-next-a-clause-capped : goal.lower_run-requires-then-next-a-clause-capped
lower_run-requires-then-next-a-clause-capped c = (
  capped_part c.requires.capped.0 (omega arith),
  c.requires.capped.1,
)

pub returns-then-next-a : goal.returns-then-next-a
returns-then-next-a c = search spans

pub lower_run-today-requires-clause-a_le_b : goal.lower_run-today-requires-clause-a_le_b
lower_run-today-requires-clause-a_le_b c = search rules

pub lower_run-today-requires-clause-capped : goal.lower_run-today-requires-clause-capped
lower_run-today-requires-clause-capped c = (
  capped_part c.requires.capped.0 (omega arith),
  known_part
      c.requires.capped.1 (omega arith),
)

pub lower_run-tomorrow-requires-clause-a_le_b : goal.lower_run-tomorrow-requires-clause-a_le_b
lower_run-tomorrow-requires-clause-a_le_b c = search rules

pub lower_run-tomorrow-requires-clause-capped : goal.lower_run-tomorrow-requires-clause-capped
lower_run-tomorrow-requires-clause-capped c = (
  capped_part c.requires.capped.0 (omega arith),
  known_on c.requires.capped.1 c.lower_run-today.ensures.filled (omega arith)
      (omega arith),
)

pub returns : goal.returns
returns c = search spans
