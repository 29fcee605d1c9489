-- `network_tables::rules::is_bad_arc` meets its contract.
use Rattle.network_tables.specs.Cut.{reads}
use Rattle.network_tables.proofs.rules.is_bad_arc.Goals as goal

pub returns : goal.returns
returns c = search reads
