-- `node_runs::clear` meets its contract.
use mathlib.Core.Path.{◌≡◌, refl, ◌∙◌}
use native.Mathlib.Omega.{arith}
use lib.ListN.{length-set}
use Rattle.node_runs.specs.Ready.{blank_none, blank_more}
use borrow.Author.Rules.{rules}
use Rattle.node_runs.proofs.clear.Goals as goal

pub loop-x-init : goal.loop-x-init
loop-x-init c = (search rules, refl, blank_none)

pub loop-x-preserved : goal.loop-x-preserved
loop-x-preserved c = (
  search rules,
  length-set c.loop-x.marks c.loop-x.x _ ∙ c.loop-x.invariant.1,
  blank_more c.loop-x.invariant.2 (omega arith),
)

pub returns : goal.returns
returns c = let e : c.loop-x.x ≡ c.args.period = omega arith in
    rw e at c.loop-x.invariant.2
