-- `text_lines::lines::near_end` meets its contract.
use native.Mathlib.Omega.{arith}
use Rattle.text_lines.specs.Lines.{unended_more, ended_at, ended_last}
use borrow.Author.Rules.{rules}
use Rattle.text_lines.proofs.lines.near_end.Goals as goal

pub loop-i-init : goal.loop-i-init
loop-i-init c = (search rules, search rules, λ k l m. absurd (omega arith))

pub returns-then-text-i-eq10 : goal.returns-then-text-i-eq10
returns-then-text-i-eq10 c =
    ended_at _ _ _ c.loop-i.invariant.2 (search rules) (search rules) (search rules)

pub loop-i-preserved : goal.loop-i-preserved
loop-i-preserved c = (
  search rules,
  search rules,
  unended_more c.args.text.now c.args.at c.loop-i.i c.loop-i.invariant.2
      (search rules),
)

pub returns : goal.returns
returns c = ended_last _ _ _ c.loop-i.invariant.2 (search rules) (search rules) (search rules)
