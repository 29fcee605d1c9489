-- `sheet::reading::finish` meets its contract.
use Rattle.sheet.specs.ReadingSteps.{steps}
use Rattle.sheet.proofs.reading.finish.Goals as goal

pub returns-then-reading-ge-LINES : goal.returns-then-reading-ge-LINES
returns-then-reading-ge-LINES c = search steps

pub returns-then-reading : goal.returns-then-reading
returns-then-reading c = search steps

pub returns : goal.returns
returns c = search steps
