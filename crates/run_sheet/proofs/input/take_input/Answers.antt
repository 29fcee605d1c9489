use Rattle.sheet.specs.Pieces.{pieces}
use Rattle.run_sheet.proofs.input.take_input.Goals as goal

pub pieces-init : goal.pieces-init
pieces-init g c = search pieces

pub returns-then-piece-eq0 : goal.returns-then-piece-eq0
returns-then-piece-eq0 g c = search pieces

pub pieces-preserved : goal.pieces-preserved
pieces-preserved g c = search pieces
