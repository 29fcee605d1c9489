-- `node_verdict::off_bits` meets its contract.
use mathlib.Core.Path.{◌≡◌}
use Rattle.node_verdict.specs.Marks.{offs_none, offs_more}
use native.Mathlib.Omega.{arith}
use borrow.Author.Rules.{rules}
use Rattle.node_verdict.proofs.off_bits.Goals as goal

pub loop-x-init : goal.loop-x-init
loop-x-init c = (search rules, offs_none _)

pub loop-x-preserved : goal.loop-x-preserved
loop-x-preserved c = (search rules, search offs_more)

pub returns : goal.returns
returns c =
    let e : c.loop-x.x ≡ c.args.period = omega arith in
    rw e at c.loop-x.invariant.1
