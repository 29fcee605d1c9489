-- `sheet_text::head::put_head` meets its contract.
use Rattle.sheet_text.specs.HeadStored.{heads}
use Rattle.sheet_text.proofs.head.put_head.Goals as goal

pub returns-then-network-gt-MOST-clause-text : goal.returns-then-network-gt-MOST-clause-text
returns-then-network-gt-MOST-clause-text c = search heads

pub returns-then-network-gt-MOST-clause-lines : goal.returns-then-network-gt-MOST-clause-lines
returns-then-network-gt-MOST-clause-lines c = search heads

pub returns-then-plan-gt-MOST-clause-text : goal.returns-then-plan-gt-MOST-clause-text
returns-then-plan-gt-MOST-clause-text c = search heads

pub returns-then-plan-gt-MOST-clause-lines : goal.returns-then-plan-gt-MOST-clause-lines
returns-then-plan-gt-MOST-clause-lines c = search heads

pub returns-clause-text : goal.returns-clause-text
returns-clause-text c = search heads

pub returns-clause-lines : goal.returns-clause-lines
returns-clause-lines c = search heads
