-- `day_merge::paint` meets its contract.
use Prim.Native.Nat.{ℕ}
use mathlib.Core.Path.{ap}
use lib.Bits.{bit_or}
use native.Mathlib.Omega.{arith}
use Rattle.theory_loops.specs.Fill.{fills, fill_up}
use Rattle.day_merge.specs.Merged.{painted, always}
use borrow.Author.Rules.{rules}
use Rattle.day_merge.proofs.paint.Goals as goal

pub loop-x-init : goal.loop-x-init
loop-x-init c = (search rules, search rules, search fills)

pub loop-x-preserved : goal.loop-x-preserved
unfolding painted always
loop-x-preserved c = (
  search rules,
  search rules,
  fill_up _ _ _ _ _ _ c.loop-x.invariant.2 c.loop-x.invariant.0 (omega arith)
      (ap (λ (y : ℕ). bit_or y c.args.more) (c.loop-x.invariant.2.after c.loop-x.x (omega arith))),
)

pub returns : goal.returns
returns c = search fills
