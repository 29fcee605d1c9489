-- `network_validate::validate::validate_first` meets its contract.
use Rattle.network.specs.Validate.{validated_first}
use Rattle.theory_loops.specs.Pick.{picks}
use Rattle.network_validate.proofs.validate.validate_first.Goals as goal

pub returns-then-is_block_of : goal.returns-then-is_block_of
unfolding validated_first
returns-then-is_block_of c = search picks

pub returns : goal.returns
unfolding validated_first
returns c = search picks
