-- `file_forms::sound::first_bad_before` meets its contract.
use mathlib.Core.{Path.ap, Bool.not}
use native.Mathlib.Omega.{arith}
use Rattle.theory_loops.specs.First.{pass, stop, told, firsts}
use borrow.Author.Rules.{rules}
use Rattle.file_forms.proofs.sound.first_bad_before.Goals as goal

pub loop-b-init : goal.loop-b-init
loop-b-init c = (search rules, search firsts)

pub is_good-requires : goal.is_good-requires
is_good-requires c = omega arith

pub returns-then-not-is_good : goal.returns-then-not-is_good
returns-then-not-is_good c =
    stop _ _ _ c.loop-b.invariant.1 (omega arith)
    (ap not (told _ _ _ c.is_good.ensures c.if-not-is_good.true))

pub loop-b-preserved : goal.loop-b-preserved
loop-b-preserved c = (
  search rules,
  pass _ _ c.loop-b.invariant.1
      (ap not (told _ _ _ c.is_good.ensures c.if-not-is_good.false)),
)

pub returns : goal.returns
returns c = search firsts
