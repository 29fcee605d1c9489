-- The reading is reached over bytes that were handed on.
use Rattle.sheet.specs.Pieces.{Fed}
use Rattle.run_sheet.proofs.input.take_input.Given as goal

abbrev pub invariant-pieces : goal.invariant-pieces
invariant-pieces g l = Fed l.fn.before l.reading
