-- `toward_row::lower_run` meets its contract: a run that is written for the first time is copied.
use Rattle.toward_row.specs.Lower.{run_copied}
use Rattle.toward_row.proofs.lower_run.Goals as goal

pub returns-then-first : goal.returns-then-first
returns-then-first c =
    run_copied _ _ _ _ _ c.if-first.true
    c.copy_run.ensures

pub fold_run-requires-clause-a_le_b : goal.fold_run-requires-clause-a_le_b
fold_run-requires-clause-a_le_b c = c.requires.a_le_b

pub fold_run-requires-clause-capped : goal.fold_run-requires-clause-capped
fold_run-requires-clause-capped c = (c.requires.capped.0, c.requires.capped.1.numbers c.if-first.false)

pub returns : goal.returns
returns c = rw c.if-first.false c.fold_run.ensures
