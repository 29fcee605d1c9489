-- `search_frontier::frontier::Frontier::nearest` meets its contract: the invariant is the contract itself at
-- the keys passed.
use mathlib.Core.{Path.refl, Path.sym, Path.◌∙◌}
use Rattle.search_frontier.specs.Nearest.{least_one, least_less, least_more, least_small, least_end}
use native.Mathlib.Numerals.{add-one}
use borrow.Author.{Rules.rules, Tests.ltb-true, Tests.ltb-false}
use Rattle.search_frontier.proofs.frontier.Frontier.nearest.Goals as goal
use Rattle.search_frontier.proofs.frontier.Frontier.nearest.Goals.{then-is_before, else-is_before}

pub loop-i-init : goal.loop-i-init
loop-i-init c = (search rules, search (least_one, rules))

pub is_before-requires : goal.is_before-requires
is_before-requires c = (
  c.requires.2.below _ c.loop-i-test.true,
  least_small c.requires.2 c.loop-i.invariant.1 c.loop-i.invariant.0,
)

pub loop-i-preserved : goal.loop-i-preserved
loop-i-preserved c = (
  rw add-one c.loop-i-test.true,
  elim c.if-is_before.branch [
    | then-is_before w ↦
        rw w.least-is (least_less _ _ _ _ c.loop-i.invariant.1 refl
        (ltb-true _ _ (sym c.is_before.ensures ∙ w.if-is_before.true)))
    | else-is_before w ↦
        rw w.least-is (least_more _ _ _ _ c.loop-i.invariant.1 refl
        (ltb-false _ _ (sym c.is_before.ensures ∙ w.if-is_before.false)))
  ],
)

pub returns : goal.returns
returns c = search (least_end, rules)
