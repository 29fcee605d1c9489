-- `plan::read::flag_word` meets its contract: the entry stands in the file, and its field is the plan's.
use native.Mathlib.{Nat.add-zero, Omega.arith}
use Rattle.plan.specs.PlanDecode.{flag_in, flag_is}
use Rattle.plan.proofs.read.flag_word.Goals as goal

pub offset-requires : goal.offset-requires
offset-requires c = let e = flag_in c.requires.plan_laid c.requires.a_lt_arcs in
    rw c.flags_run.ensures (e.pos, e.fit, e.near)

pub le64-requires : goal.le64-requires
le64-requires c =
    let o = rw c.flags_run.ensures at c.offset.ensures in
    omega (arith, flag_in c.requires.plan_laid c.requires.a_lt_arcs, o)

pub returns : goal.returns
returns c =
    let o = rw c.flags_run.ensures at c.offset.ensures in
    flag_is c.requires.plan_laid c.requires.a_lt_arcs (rw add-zero (rw o at c.le64.ensures))
