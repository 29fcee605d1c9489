-- `plan_flags::inside_words` meets its contract: the arcs passed have their words.
use mathlib.Core.Path.{◌∙◌}
use Rattle.theory_loops.specs.Fill.{fills, fill_end}
use Rattle.plan_flags.specs.Words.{flags_inside}
use borrow.Author.Rules.{rules}
use Rattle.plan_flags.proofs.inside_words.Goals as goal

pub loop-a-init : goal.loop-a-init
loop-a-init c = (search rules, search rules, search rules, search fills)

pub loop-a-preserved : goal.loop-a-preserved
loop-a-preserved c = (search rules, search rules, search rules, search fills)

pub returns : goal.returns
returns c = flags_inside (c.loop-a.invariant.1 ∙ c.requires.town.sizes.arcs) c.loop-a.invariant.2
    (fill_end _ _ _ _ _ _ c.loop-a.invariant.3 c.loop-a.invariant.0 c.loop-a-test.false)
