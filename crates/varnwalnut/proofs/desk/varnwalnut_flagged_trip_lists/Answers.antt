-- `varnwalnut::desk::varnwalnut_flagged_trip_lists` meets its contract.
use mathlib.Core.Path.{refl}
use Rattle.varnwalnut.specs.Calling.{lists_short, lists_written, flagged_count}
use borrow.Author.Rules.{rules}
use Rattle.varnwalnut.proofs.desk.varnwalnut_flagged_trip_lists.Goals as goal

pub returns-then-answer-lt6 : goal.returns-then-answer-lt6
returns-then-answer-lt6 c = lists_short _ _ _ _ _ _ _ _ _ _ c.if-answer-lt6.true refl

pub write_lists-requires : goal.write_lists-requires
write_lists-requires c = (
  flagged_count _ _ _ _ _ _ _ _
      c.flagged_trip.ensures.trip.answer,
  search rules,
)

pub returns : goal.returns
returns c = search lists_written
