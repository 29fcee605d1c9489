-- `network::points::Stretch::next` meets its contract: the next block's first point stands in the file.
use native.Mathlib.Omega.{arith}
use Rattle.network.specs.Points.{behind_in, sides}
use borrow.Author.Rules.{rules}
use Rattle.network.proofs.points.Stretch.next.Goals as goal

pub overflow_add-result-2 : goal.overflow_add-result-2
overflow_add-result-2 c = omega (arith, behind_in c.requires.laid c.requires.placed.0 c.requires.placed.1)

pub overflow_add-result-3 : goal.overflow_add-result-3
overflow_add-result-3 c = omega (arith, behind_in c.requires.laid c.requires.placed.0 c.requires.placed.1)

pub returns : goal.returns
returns c = search (sides, rules)
