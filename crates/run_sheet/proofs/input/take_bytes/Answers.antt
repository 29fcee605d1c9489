use Rattle.sheet.specs.Pieces.{pieces}
use Rattle.run_sheet.proofs.input.take_bytes.Goals as goal

pub loop-byte-init : goal.loop-byte-init
loop-byte-init g c = search pieces

pub loop-byte-preserved : goal.loop-byte-preserved
loop-byte-preserved g c = search pieces
