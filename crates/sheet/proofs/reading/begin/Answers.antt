-- `sheet::reading::begin` meets its contract.
use Rattle.sheet_text.specs.Printed.{printed}
use Rattle.sheet.specs.ReadingSteps.{begins}
use Rattle.sheet.proofs.reading.begin.Goals as goal

pub returns-clause-text : goal.returns-clause-text
returns-clause-text c = search printed

pub returns-clause-reading : goal.returns-clause-reading
returns-clause-reading c = search begins
