-- `arc_runs::narrow` meets its contract.
use native.Mathlib.Omega.{arith}
use Rattle.theory_loops.specs.Fill.{fills}
use Rattle.arc_runs.specs.Travels.{entries}
use borrow.Author.Rules.{rules}
use Rattle.arc_runs.proofs.narrow.Goals as goal

pub loop-i-init : goal.loop-i-init
loop-i-init c = (search rules, search fills)

pub overflow_cast-travels : goal.overflow_cast-travels
overflow_cast-travels c = omega (arith, c.requires.2.small _ c.loop-i-test.true)

pub loop-i-preserved : goal.loop-i-preserved
unfolding entries
loop-i-preserved c = (search rules, search fills)

pub returns : goal.returns
returns c = search fills
