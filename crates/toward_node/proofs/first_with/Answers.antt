-- `first_with` meets its contract: the first that has the most, and one has.
use mathlib.Core.{Path.◌≡◌, Logic.◌≢◌}
use native.Mathlib.Omega.{arith}
use Rattle.std.proofs.Common.{take}
use Rattle.std.proofs.lemmas.Iterator.{YieldsList-from_slice, IsFirst-from_position}
use borrow.Author.{Rules.rules, Tests.tests}
use Rattle.toward_node.specs.Nearest.{first_met}
use Rattle.toward_node.proofs.first_with.Goals as goal

pub returns : goal.returns
returns c =
    first_met _ _ _ _ _ (omega arith) c.requires.1 c.requires.2
    (IsFirst-from_position _ _ _ (λ x. x ≡ c.args.most) (λ x. x ≢ c.args.most) c.position.ensures.ran
    (YieldsList-from_slice (take c.args.nodes c.args.near.now) cc) (λ x q k. search (rules, tests))
    (λ x q k. search (rules, tests)))
    c.unwrap_or.ensures
