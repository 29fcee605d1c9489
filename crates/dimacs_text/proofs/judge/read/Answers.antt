-- `dimacs_text::judge::read` meets its contract.
use Rattle.dimacs_reading.specs.Reading.{reads}
use Rattle.dimacs_text.specs.Noting.{noted_start, noted_on, noted_over, noted_off}
use borrow.Author.Rules.{rules}
use Rattle.dimacs_text.proofs.judge.read.Goals as goal

pub loop-at-init : goal.loop-at-init
loop-at-init c = (search (rules, reads), search (rules, noted_start))

pub returns-then-r : goal.returns-then-r
returns-then-r c = (search (rules, reads), search (rules, noted_off))

pub loop-at-preserved : goal.loop-at-preserved
loop-at-preserved c = (search (rules, reads), search (rules, noted_on))

pub returns : goal.returns
returns c = (search (rules, reads), search (rules, noted_over))
