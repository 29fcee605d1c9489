-- `file_forms::form::first_unformed` meets its contract.
use native.Mathlib.Omega.{arith}
use Rattle.theory_loops.specs.First.{stop, end, firsts}
use Prim.Native.Nat.{◌+◌}
use mathlib.Core.Path.{◌∙◌, ap}
use borrow.Author.Rules.{rules}
use Rattle.file_forms.proofs.form.first_unformed.Goals as goal

pub blocks-m-requires : goal.blocks-m-requires
blocks-m-requires c = (c.requires.run_in_file.pos, search rules)

pub loop-j-init : goal.loop-j-init
loop-j-init c = (search rules, search firsts)

pub is_unformed-requires-clause-j_bound : goal.is_unformed-requires-clause-j_bound
is_unformed-requires-clause-j_bound c = omega arith

pub returns-then-is_unformed : goal.returns-then-is_unformed
returns-then-is_unformed c =
    ap (λ j. c.args.run.from + j)
    (stop _ _ _ c.loop-j.invariant.1 (omega arith) (search firsts))

pub loop-j-preserved : goal.loop-j-preserved
loop-j-preserved c = (search rules, search firsts)

pub returns : goal.returns
returns c =
    ap (λ j. c.args.run.from + j)
    (c.blocks-m.ensures ∙ end _ _ _ c.loop-j.invariant.1 (omega arith) (omega arith))
