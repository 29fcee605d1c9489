-- `plan_check::check::check_tests` meets its contract: 20 is tried first, and the tables that are filled then
-- are those that the other tests ask for.
use Rattle.search_chains.specs.Town.{fresh_tables}
use Rattle.plan_check.specs.{Ladder.checks, Ladder.equipped_of, Finds.finds_none}
use mathlib.Core.Path.{◌∙◌}
use Rattle.plan_check.proofs.check.check_tests.Goals as goal

pub returns-then-arc-l : goal.returns-then-arc-l
returns-then-arc-l c =
    let told = c.before_finds.ensures.0 ∙ c.refused.ensures in
    (c.before_finds.ensures.0 ∙ search checks, finds_none _ _ _ told c.before_finds.ensures.1)

pub chain-requires-clause-unchained : goal.chain-requires-clause-unchained
chain-requires-clause-unchained c = search fresh_tables

pub check_triples-requires : goal.check_triples-requires
check_triples-requires c =
    equipped_of c.requires.checkable
    c.first_points.ensures
    c.chain.ensures c.requires.listed

pub returns : goal.returns
returns c = search checks
