-- `sheet_text::head::put_refusal` meets its contract.
use Rattle.sheet_text.specs.HeadStored.{refusal_stored}
use Rattle.sheet_text.proofs.head.put_refusal.Goals as goal

pub returns-clause-text : goal.returns-clause-text
returns-clause-text c = search refusal_stored
