-- `sheet_text::numbers::put_numbers` meets its contract.
use native.Mathlib.Omega.{arith}
use Rattle.sheet_text.specs.Numbers.{spaced_few, numbers}
use borrow.Author.Rules.{rules}
use Rattle.sheet_text.proofs.numbers.put_numbers.Goals as goal

pub loop-n-init : goal.loop-n-init
loop-n-init c = (search rules, search rules, search rules, search numbers)

pub loop-n-preserved : goal.loop-n-preserved
loop-n-preserved c = (
  search rules,
  search rules,
  omega (arith, spaced_few _ _ _ _ _ c.put_spaced-next.ensures),
  search numbers,
)

pub returns-clause-text : goal.returns-clause-text
returns-clause-text c = search numbers
