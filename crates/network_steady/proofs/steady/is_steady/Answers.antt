-- `network_steady::steady::is_steady` meets its contract.
use Rattle.std.proofs.Common.{arith}
use Rattle.network.specs.Decode.{laid_small}
use Rattle.network_steady.specs.Steady.{steadies}
use Rattle.network_steady.proofs.steady.is_steady.Goals as goal

pub overflow_add-joined : goal.overflow_add-joined
overflow_add-joined c = omega (arith, laid_small c.requires.laid)

pub returns-then-joined-l : goal.returns-then-joined-l
returns-then-joined-l c = search steadies

pub returns : goal.returns
returns c = search steadies
