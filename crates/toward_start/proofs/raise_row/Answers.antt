-- `toward_start::raise_row` meets its contract: the entries passed are one more than the row's.
use native.Mathlib.Omega.{arith}
use Rattle.theory_loops.specs.Fill.{fill_end, fills}
use Rattle.toward_start.specs.Start.{raised_from, raise_entry, raise_row_lem, known_at}
use borrow.Author.Rules.{rules}
use Rattle.toward_start.proofs.raise_row.Goals as goal

pub loop-x-init : goal.loop-x-init
loop-x-init c = (search rules, search fills)

pub overflow_add-row-in-loop-x : goal.overflow_add-row-in-loop-x
overflow_add-row-in-loop-x c =
    omega (
      arith,
      known_at _ _ _ _ _ c.requires.has_numbers c.row_place-p.ensures.0
          c.loop-x-test.true,
    )

pub loop-x-preserved : goal.loop-x-preserved
loop-x-preserved c = (search rules, search (fills, raise_entry))

pub returns : goal.returns
returns c =
    raise_row_lem _ _ _ _ _ _ c.row_place-p.ensures.0
    (fill_end (raised_from _ _) _ 0 _ _ _ c.loop-x.invariant.1 c.loop-x.invariant.0
    c.loop-x-test.false)
