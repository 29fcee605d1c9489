-- `network_pack::pack::write_out` meets its contract.
use native.Mathlib.Omega.{arith}
use Rattle.network.specs.Validate.{blocks_few}
use Rattle.network_pack.specs.Proper.{room_short, room_whole}
use Rattle.network_pack.proofs.pack.write_out.Goals as goal

pub overflow_mul-long : goal.overflow_mul-long
overflow_mul-long c =
    omega (arith, blocks_few _ _ c.requires.within c.requires.is)

pub returns-then-out-long : goal.returns-then-out-long
returns-then-out-long c =
    room_short _ c.requires _ _ c.if-out-long.true c.refused.ensures

pub overflow_cast-result : goal.overflow_cast-result
overflow_cast-result c =
    omega (arith, blocks_few _ _ c.requires.within c.requires.is)

pub returns : goal.returns
returns c =
    room_whole _ c.requires _ _ c.if-out-long.false c.encode_network.ensures
