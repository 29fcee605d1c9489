-- `network_rules::rules::judge` meets its contract.
use native.Mathlib.Omega.{arith}
use Rattle.network.specs.Decode.{laid_sizes, laid_small}
use Rattle.network_rules.specs.Judge.{judgings}
use Rattle.network_rules.proofs.rules.judge.Goals as goal

pub overflow_cast-v : goal.overflow_cast-v
overflow_cast-v c = omega (arith, laid_small c.requires)

pub returns-then-v-l : goal.returns-then-v-l
returns-then-v-l c = search (judgings, laid_sizes)

pub overflow_cast-u : goal.overflow_cast-u
overflow_cast-u c = omega (arith, laid_small c.requires)

pub returns-then-u-l : goal.returns-then-u-l
returns-then-u-l c = search (judgings, laid_sizes)

pub returns : goal.returns
returns c = search (judgings, laid_sizes)
