-- `plan::borders::mark_heads` meets its contract: the invariant is the contract itself at the arcs passed.
use mathlib.Core.Path.{◌∙◌}
use Rattle.network.specs.Decode.{laid_sizes}
use Rattle.plan.specs.Marks.{mark_end}
use Rattle.plan.proofs.borders.mark_heads.Goals as goal

pub returns : goal.returns
returns c = let q = laid_sizes c.requires.laid in
    mark_end _ _ _ _ c.loop-a.invariant.2 c.loop-a.invariant.0 c.loop-a-test.false (c.loop-a.invariant.1 ∙ q.arcs)
