-- `plan_rules::rules::has_high_bit` meets its contract: 64 cells leave no bit over, and fewer those that a
-- shift keeps.
use Rattle.plan.specs.PlanRules.{no_high, high_shift}
use Rattle.plan_rules.proofs.rules.has_high_bit.Goals as goal

pub returns-then-full : goal.returns-then-full
returns-then-full c = no_high _ _ c.if-full.true c.requires c.ranges.word.fits

pub returns : goal.returns
returns c = high_shift c.args.cells c.args.word
