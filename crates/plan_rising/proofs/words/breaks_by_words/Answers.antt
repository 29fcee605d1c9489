-- `plan_rising::words::breaks_by_words` meets its contract: the breaks of the first i words of each part are
-- counted.
use Rattle.std.proofs.Common.{arith, rules}
use Rattle.plan_rising.specs.Words.{words_few, words}
use Rattle.plan_rising.proofs.words.breaks_by_words.Goals as goal

pub loop-i-init : goal.loop-i-init
loop-i-init c = (search rules, search words)

pub overflow_mul-breaks : goal.overflow_mul-breaks
overflow_mul-breaks c = omega (
  arith,
  words_few _ _ _ _ _ _ c.loop-i.invariant.1 c.is_tick.ensures
      c.falls_apart.ensures,
)

pub overflow_add-breaks : goal.overflow_add-breaks
overflow_add-breaks c = omega (
  arith,
  words_few _ _ _ _ _ _ c.loop-i.invariant.1 c.is_tick.ensures
      c.falls_apart.ensures,
)

pub loop-i-preserved : goal.loop-i-preserved
loop-i-preserved c = (search rules, search words)

pub returns : goal.returns
returns c = search words
