-- `network_rules::rules::is_bad_cell` meets its contract.
use Rattle.network.specs.Rules.{judges}
use Rattle.network_rules.proofs.rules.is_bad_cell.Goals as goal

pub returns : goal.returns
returns c = search judges
