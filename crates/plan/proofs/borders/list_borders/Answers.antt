-- `plan::borders::list_borders` meets its contract: the marked nodes passed are listed. The two arms of the
-- branch meet, so each is taken by itself.
use native.Mathlib.Omega.{arith}
use Rattle.theory_loops.specs.Select.{chooses, choose_yes, choose_no, choose_end}
use Rattle.network.specs.Decode.{laid_sizes, laid_small}
use Rattle.plan.specs.Marks.{mark_none, border_yes, border_no, borders_listed}
use borrow.Author.Rules.{rules}
use Rattle.plan.proofs.borders.list_borders.Goals as goal
use Rattle.plan.proofs.borders.list_borders.Goals.{then-marks-v-ne0, else-marks-v-ne0}

pub mark_heads-requires-clause-marked : goal.mark_heads-requires-clause-marked
mark_heads-requires-clause-marked c = mark_none _

pub loop-v-init : goal.loop-v-init
loop-v-init c = (
  search rules,
  (laid_sizes c.requires.laid).nodes,
  (laid_small c.requires.laid).nodes_most,
  search rules,
  c.requires.out_len,
  search chooses,
)

pub loop-v-preserved : goal.loop-v-preserved
loop-v-preserved c = (
  search rules,
  c.loop-v.invariant.1,
  c.loop-v.invariant.2,
  c.loop-v.invariant.3,
  c.loop-v.invariant.4,
  elim c.if-marks-v-ne0.branch [
    | then-marks-v-ne0 w ↦
        rw (w.out-is, w.count-is)
        (choose_yes _ _ _ _ _ c.loop-v.invariant.5 (omega (arith, c.loop-v.invariant.5.few))
        (border_yes _ _ c.loop-v.invariant.3 _ (omega arith) w.if-marks-v-ne0.true))
    | else-marks-v-ne0 w ↦
        rw (w.out-is, w.count-is)
        (choose_no _ _ _ _ _ c.loop-v.invariant.5
        (border_no _ _ c.loop-v.invariant.3 _ (omega arith) w.if-marks-v-ne0.false))
  ],
)

pub returns : goal.returns
returns c = borders_listed _ _ _ _ (choose_end _ _ _ _ _ _ c.loop-v.invariant.5 (omega arith) (omega arith))
