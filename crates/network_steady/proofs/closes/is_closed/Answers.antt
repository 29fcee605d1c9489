-- `network_steady::closes::is_closed` meets its contract.
use Rattle.std.proofs.Common.{arith}
use Rattle.network.specs.Decode.{laid_small}
use Rattle.network_steady.specs.Closes.{closed_answer}
use Rattle.network_steady.proofs.closes.is_closed.Goals as goal

pub overflow_cast-l : goal.overflow_cast-l
overflow_cast-l c = omega (arith, laid_small c.requires.laid)

pub is_unclosed-requires : goal.is_unclosed-requires
is_unclosed-requires c =
    let p = laid_small c.requires.laid in
    (omega arith, omega arith, omega arith, omega arith)

pub returns : goal.returns
returns c = search closed_answer
