-- `network_encode::encode::put_three` meets its contract.
use native.Mathlib.Omega.{arith}
use Prim.Native.Nat.{◌<◌}
use Rattle.file_fields.specs.Put.{put_join}
use Rattle.network_encode.proofs.encode.put_three.Goals as goal

pub returns : goal.returns
returns c = let l : c.args.x < 65536
    = omega arith in put_join 2 4 _ _ _ _ _ _ l
    c.put16.ensures c.put_two.ensures
