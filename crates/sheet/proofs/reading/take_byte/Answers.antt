-- `sheet::reading::take_byte` meets its contract.
use Rattle.sheet.specs.ReadingSteps.{steps}
use Rattle.sheet.proofs.reading.take_byte.Goals as goal

pub returns-then-reading-ge-LINES-clause-text : goal.returns-then-reading-ge-LINES-clause-text
returns-then-reading-ge-LINES-clause-text c = search steps

pub returns-then-reading-ge-LINES-clause-reading : goal.returns-then-reading-ge-LINES-clause-reading
returns-then-reading-ge-LINES-clause-reading c = search steps

pub returns-then-byte-eq10-clause-text : goal.returns-then-byte-eq10-clause-text
returns-then-byte-eq10-clause-text c = search steps

pub returns-then-byte-eq10-clause-reading : goal.returns-then-byte-eq10-clause-reading
returns-then-byte-eq10-clause-reading c = search steps

pub returns-clause-text : goal.returns-clause-text
returns-clause-text c = search steps

pub returns-clause-reading : goal.returns-clause-reading
returns-clause-reading c = search steps
