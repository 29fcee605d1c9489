-- `search_path::trim` meets its contract: the invariant is the contract itself at the nodes passed.
use mathlib.Core.Path.{refl}
use Rattle.theory_loops.specs.Fill.{fills}
use Rattle.search_path.specs.Trim.{trim_more}
use borrow.Author.Rules.{rules}
use Rattle.search_path.proofs.trim.Goals as goal

pub loop-v-init : goal.loop-v-init
loop-v-init c = (search rules, search rules, search fills)

pub loop-v-preserved : goal.loop-v-preserved
loop-v-preserved c = (
  search rules,
  search rules,
  trim_more _ _ _ _ _ _ c.loop-v.invariant.2 c.requires (search rules) refl c.shown_label.ensures,
)

pub returns : goal.returns
returns c = search (fills, rules)
