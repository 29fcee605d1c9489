-- What the check's tests 20 to 24 rest on: a sound network file (`Town` of the crate `search_arcs`), a plan
-- file whose profiles are formed as 17 to 19 ask (`Formed` of the crate `plan_values`), and the counts of the
-- one in the other.
use mathlib.Core.{Path.◌≡◌, List.List}
use Rattle.std.specs.Prelude.{ℕ}
use Rattle.plan_tests.specs.declared.tests.Layouts.{Layouts}
use Rattle.network.specs.{Decode.decode, Town.partition_of}
use Rattle.search_chains.specs.Town.{Town}
use Rattle.plan.specs.Border.{border_count}
use Rattle.plan_values.specs.Formed.{Formed}

-- The plan is one for the network.
pub record Checkable (network plan : List ℕ) (l : Layouts) : Type 0 where
  pub town : Town network l.network
  pub formed : Formed plan l.plan
  pub period : l.plan.period ≡ l.network.period
  pub nodes : l.plan.nodes ≡ l.network.nodes
  pub arcs : l.plan.arcs ≡ l.network.arcs
  pub borders : l.plan.borders ≡ border_count (partition_of (decode network))
