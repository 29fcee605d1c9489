-- `network_validate::validate::validate_header` meets its contract.
use Rattle.network.specs.Validate.{header_within, header_is, header_inside, header_outside}
use Rattle.network_validate.proofs.validate.validate_header.Goals as goal

pub validate_length-requires-clause-within_limits : goal.validate_length-requires-clause-within_limits
validate_length-requires-clause-within_limits c = search header_within

pub validate_length-requires-clause-h_value : goal.validate_length-requires-clause-h_value
validate_length-requires-clause-h_value c = search header_is

pub returns-in-Some : goal.returns-in-Some
returns-in-Some c = search header_inside

pub returns-in-None : goal.returns-in-None
returns-in-None c = search header_outside
