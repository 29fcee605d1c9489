-- `plan_rules::rules::is_bad_word` meets its contract: the word is the plan's, and no more than 64 cells
-- are.
use Rattle.plan.specs.PlanDecode.{plan_small}
use Rattle.plan_rules.proofs.rules.is_bad_word.Goals as goal

pub has_high_bit-requires : goal.has_high_bit-requires
has_high_bit-requires c = (plan_small c.requires.plan_laid).cells_most

pub returns : goal.returns
returns c = rw c.flag_word.ensures at c.has_high_bit.ensures
