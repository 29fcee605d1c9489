-- `sheet_text::numbers::put_roads` meets its contract.
use native.Mathlib.Omega.{arith}
use Rattle.sheet_text.specs.Numbers.{spaced_road, numbers}
use borrow.Author.Rules.{rules}
use Rattle.sheet_text.proofs.numbers.put_roads.Goals as goal

pub loop-road-init : goal.loop-road-init
loop-road-init c = (search rules, search rules, search rules, search numbers)

pub loop-road-preserved : goal.loop-road-preserved
loop-road-preserved c = (
  search rules,
  search rules,
  omega (arith, spaced_road _ _ _ _ _ c.put_spaced-next.ensures (search rules)),
  search (rules, numbers),
)

pub returns-clause-text : goal.returns-clause-text
returns-clause-text c = search (rules, numbers)
