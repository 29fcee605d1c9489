-- `network_hours::open_after` meets its contract.
use native.Mathlib.Omega.{arith}
use Rattle.network.specs.Decode.{laid_small}
use Rattle.network_hours.specs.Hours.{open_told}
use borrow.Author.Rules.{rules}
use Rattle.network_hours.proofs.open_after.Goals as goal

pub overflow_cast-period : goal.overflow_cast-period
overflow_cast-period c = omega (arith, laid_small c.requires.laid)

pub open_from-requires : goal.open_from-requires
open_from-requires c =
    let small = laid_small c.requires.laid in
    (omega (arith, small), omega (arith, small), search rules, search rules)

pub returns : goal.returns
returns c = search open_told
