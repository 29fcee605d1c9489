-- `varnwalnut::desk::varnwalnut_plain_trip_lists` meets its contract.
use mathlib.Core.Path.{refl}
use Rattle.varnwalnut.specs.Calling.{lists_short, lists_written, plain_count}
use borrow.Author.Rules.{rules}
use Rattle.varnwalnut.proofs.desk.varnwalnut_plain_trip_lists.Goals as goal

pub returns-then-answer-lt6 : goal.returns-then-answer-lt6
returns-then-answer-lt6 c = lists_short _ _ _ _ _ _ _ _ _ _ c.if-answer-lt6.true refl

pub write_lists-requires : goal.write_lists-requires
write_lists-requires c = (
  plain_count _ _ _ _ _ _ _ c.plain_trip.ensures.trip.answer,
  search rules,
)

pub returns : goal.returns
returns c = search lists_written
