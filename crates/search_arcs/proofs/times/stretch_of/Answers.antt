-- `search_arcs::times::stretch_of` meets its contract: a block's points are passed where the next block's
-- first is at or before x, and the walk ends where it is not, or no point follows.
use native.Mathlib.Omega.{arith}
use Rattle.network.specs.Decode.{laid_small}
use Rattle.search_arcs.specs.Stretches.{passing}
use borrow.Author.Rules.{rules}
use Rattle.search_arcs.proofs.times.stretch_of.Goals as goal

pub overflow_add-end : goal.overflow_add-end
overflow_add-end c = omega (arith, (laid_small c.requires.laid).points_most)

pub loop-s-init : goal.loop-s-init
loop-s-init c = search (passing, rules)

pub overflow_add-s : goal.overflow_add-s
overflow_add-s c = omega (arith, (laid_small c.requires.laid).points_most)

pub returns-then-x-tick : goal.returns-then-x-tick
returns-then-x-tick c = search (passing, rules)

pub loop-s-preserved : goal.loop-s-preserved
loop-s-preserved c = search (passing, rules)

pub returns : goal.returns
returns c = search (passing, rules)
