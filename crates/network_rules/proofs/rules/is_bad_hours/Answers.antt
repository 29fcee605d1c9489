-- `network_rules::rules::is_bad_hours` meets its contract.
use Rattle.network.specs.Rules.{judges}
use Rattle.network_rules.proofs.rules.is_bad_hours.Goals as goal

pub returns : goal.returns
returns c = search judges
