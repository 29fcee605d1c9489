-- `network::points::Stretch::after` meets its contract: the point stands beside the one before it, or is the
-- next block's first.
use native.Mathlib.Omega.{arith}
use Rattle.network.specs.Points.{side_in, sides}
use borrow.Author.Rules.{rules}
use Rattle.network.proofs.points.Stretch.after.Goals as goal

pub overflow_add-result-then-passed-self : goal.overflow_add-result-then-passed-self
overflow_add-result-then-passed-self c =
    omega (arith, side_in c.requires.laid c.requires.placed.0 _ c.requires.placed.1 (omega arith))

pub returns-then-passed-self : goal.returns-then-passed-self
returns-then-passed-self c = search (sides, rules)
