-- `network::points::Stretch::travel` meets its contract.
use native.Mathlib.Omega.{arith}
use Rattle.network.specs.Points.{side_in, sides}
use borrow.Author.Rules.{rules}
use Rattle.network.proofs.points.Stretch.travel.Goals as goal

pub overflow_add-self : goal.overflow_add-self
overflow_add-self c =
    omega (arith, side_in c.requires.laid c.requires.placed.0 _ c.requires.placed.1 c.requires.placed.2)

pub overflow_add-self-2 : goal.overflow_add-self-2
overflow_add-self-2 c =
    omega (arith, side_in c.requires.laid c.requires.placed.0 _ c.requires.placed.1 c.requires.placed.2)

pub le16-requires : goal.le16-requires
le16-requires c =
    omega (arith, side_in c.requires.laid c.requires.placed.0 _ c.requires.placed.1 c.requires.placed.2)

pub returns : goal.returns
returns c = (search sides, search rules)
