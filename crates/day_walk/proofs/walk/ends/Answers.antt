-- `day_walk::walk::ends` meets its contract.
use mathlib.Core.Path.{refl}
use native.Mathlib.Omega.{arith}
use Rattle.day_walk.specs.Walk.{turned}
use borrow.Author.Rules.{rules}
use Rattle.day_walk.proofs.walk.ends.Goals as goal

pub returns-then-e-period : goal.returns-then-e-period
returns-then-e-period c = (
  turned _ _ c.args.period _ (omega arith) (omega arith) (λ _. refl)
      (λ h. absurd (omega arith)),
  search rules,
)

pub returns : goal.returns
returns c = (
  turned _ _ c.args.period _ (omega arith) (omega arith) (λ h. absurd (omega arith))
      (λ _. refl),
  omega arith,
)
