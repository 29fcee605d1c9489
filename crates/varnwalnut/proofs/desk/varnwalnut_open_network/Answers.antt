-- `varnwalnut::desk::varnwalnut_open_network` meets its contract.
use mathlib.Core.Path.{refl}
use borrow.Author.Rules.{rules}
use Rattle.varnwalnut.specs.Calling.{open_short, open_written}
use Rattle.varnwalnut.proofs.desk.varnwalnut_open_network.Goals as goal

pub returns-then-answer-lt10 : goal.returns-then-answer-lt10
returns-then-answer-lt10 c = open_short _ _ _ _ c.if-answer-lt10.true refl

pub returns : goal.returns
returns c =
    open_written _ _ _ _ c.open_network.result _ _ c.if-answer-lt10.false (search rules)
    c.write_opening.ensures.code c.write_opening.ensures.numbers
