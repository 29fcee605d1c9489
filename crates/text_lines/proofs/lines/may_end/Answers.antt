-- `text_lines::lines::may_end` meets its contract.
use native.Mathlib.Omega.{arith}
use Rattle.text_lines.specs.Lines.{unfound_more, unfound_all}
use borrow.Author.Rules.{rules}
use Rattle.text_lines.proofs.lines.may_end.Goals as goal

pub loop-k-init : goal.loop-k-init
loop-k-init c = (search rules, λ _ k l m. absurd (omega arith))

pub loop-k-preserved : goal.loop-k-preserved
loop-k-preserved c = (
  search rules,
  unfound_more c.args.text.now c.args.at _ c.loop-k.k c.loop-k.invariant.1,
)

pub returns : goal.returns
returns c =
    unfound_all c.args.text.now c.args.at _ c.loop-k.k c.loop-k.invariant.1 16
    (search rules) (search rules)
