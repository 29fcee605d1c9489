-- `network_rules::rules::first_bad_hours` meets its contract.
use mathlib.Core.Path.{refl}
use Rattle.std.proofs.Common.{rules}
use Rattle.theory_loops.specs.Position.{position_first}
use Rattle.network_rules.specs.Hours.{hours_none}
use Rattle.network_rules.proofs.rules.first_bad_hours.Goals as goal

pub returns-then-l-eq0 : goal.returns-then-l-eq0
returns-then-l-eq0 c = search hours_none

pub returns : goal.returns
returns c =
    position_first _ _ c.position-bad.ensures.ran refl c.unwrap_or.ensures (λ k b q h. search rules)
