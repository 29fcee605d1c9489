-- `plan_check::check::first_unflagged` meets its contract.
use mathlib.Core.Path.{refl}
use Rattle.std.proofs.Common.{rules}
use Rattle.theory_loops.specs.Position.{position_first}
use Rattle.plan_check.proofs.check.first_unflagged.Goals as goal

pub returns : goal.returns
returns c =
    position_first _ _ c.position-bad.ensures.ran refl c.unwrap_or.ensures (λ k b q h. search rules)
