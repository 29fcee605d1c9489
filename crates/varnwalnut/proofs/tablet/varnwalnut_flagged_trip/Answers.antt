-- `varnwalnut::tablet::varnwalnut_flagged_trip` meets its contract.
use Rattle.varnwalnut.specs.Calling.{trip_short, trip_written, trip_lists, flagged_count}
use borrow.Author.Rules.{rules}
use Rattle.varnwalnut.proofs.tablet.varnwalnut_flagged_trip.Goals as goal

pub returns-then-answer-lt-TRIP_BYTES : goal.returns-then-answer-lt-TRIP_BYTES
returns-then-answer-lt-TRIP_BYTES c = search trip_short

pub write_trip-requires : goal.write_trip-requires
write_trip-requires c = (
  flagged_count _ _ _ _ _ _ _ _ c.flagged_trip-visit.ensures.trip.answer,
  search rules,
  search rules,
)

pub returns : goal.returns
returns c = search (trip_written, trip_lists)
