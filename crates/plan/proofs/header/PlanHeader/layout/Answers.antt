-- `plan::header::PlanHeader::layout` meets its contract: the profiles are few, so no sum or product wraps.
use native.Mathlib.Omega.{arith}
use Rattle.plan.specs.{PlanHeader.profiles_few, PlanLayout.plan_layout_of}
use borrow.Author.Rules.{rules}
use Rattle.plan.proofs.header.PlanHeader.layout.Goals as goal

pub overflow_mul-profiles : goal.overflow_mul-profiles
overflow_mul-profiles c = omega (arith, profiles_few c.requires)

pub blocks-requires : goal.blocks-requires
blocks-requires c =
    (search rules, omega (arith, profiles_few c.requires))

pub overflow_add-pointblock : goal.overflow_add-pointblock
overflow_add-pointblock c =
    omega (arith, c.blocks-countblock.ensures, c.blocks-2.ensures, c.requires, profiles_few c.requires)

pub overflow_add-result : goal.overflow_add-result
overflow_add-result c =
    omega (
      arith,
      c.blocks-countblock.ensures,
      c.blocks-2.ensures,
      c.blocks-3.ensures,
      c.requires,
      profiles_few c.requires,
    )

pub returns : goal.returns
unfolding plan_layout_of
returns c =
    rw (
      c.blocks-countblock.ensures,
      c.blocks-2.ensures,
      c.blocks-3.ensures,
    )
