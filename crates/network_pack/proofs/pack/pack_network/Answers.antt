-- `network_pack::pack::pack_network` meets its contract.
use Rattle.network_pack.specs.Pack.{inside_within, inside_number, numbers_inside, numbers_outside}
use Rattle.network_pack.proofs.pack.pack_network.Goals as goal

pub pack_within-requires : goal.pack_within-requires
pack_within-requires c = (search inside_within, search inside_number)

pub returns-in-Some : goal.returns-in-Some
returns-in-Some c = search numbers_inside

pub returns-in-None : goal.returns-in-None
returns-in-None c = search numbers_outside
