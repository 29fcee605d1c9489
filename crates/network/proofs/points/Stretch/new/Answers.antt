-- `network::points::Stretch::new` meets its contract: the point's block is one of the file's.
use native.Mathlib.Omega.{arith}
use Rattle.network.specs.Decode.{point_in}
use Rattle.network.proofs.points.Stretch.new.Goals as goal

pub offset-requires : goal.offset-requires
offset-requires c = omega (arith, point_in c.requires.laid c.requires.q_lt_points)
