-- `plan_rising::words::breaks_beside` meets its contract.
use Rattle.std.proofs.Common.{arith}
use Rattle.plan_rising.specs.{Breaks.both_few, Breaks.both_all, Words.word_points}
use Rattle.plan_rising.proofs.words.breaks_beside.Goals as goal

pub overflow_add-result : goal.overflow_add-result
overflow_add-result c =
    omega (
      arith,
      c.from.ensures,
      both_few _ _ word_points 2 _ _ c.breaks_by_words.ensures c.breaks_some.ensures,
    )

pub returns-then-m : goal.returns-then-m
returns-then-m c =
    rw (c.if-m.true, c.from.ensures)
    (both_all _ _ word_points 2 _ _ c.breaks_by_words.ensures c.breaks_some.ensures)
