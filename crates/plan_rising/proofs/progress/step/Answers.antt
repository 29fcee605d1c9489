-- `plan_rising::progress::step` meets its contract: the block stands in the file, and its breaks come to
-- those counted.
use Rattle.std.proofs.Common.{refl, ◌∙◌, arith, rules}
use Rattle.plan_rising.specs.Progress.{BlockAt, block_begins, block_at, walked_few, walked_more}
use Rattle.plan_rising.proofs.progress.step.Goals as goal

pub entries_in-m-requires : goal.entries_in-m-requires
entries_in-m-requires c = block_begins c.requires.plan_laid _ c.requires.walked c.requires.done_bound

pub overflow_sub-m : goal.overflow_sub-m
overflow_sub-m c =
    let here : BlockAt c.args.plan.now c.args.l
    c.args.progress.done c.entries_in-m.result =
    block_at c.requires.plan_laid _ c.requires.walked c.requires.done_bound _ c.entries_in-m.ensures in
    omega (arith, here)

pub overflow_add-base : goal.overflow_add-base
overflow_add-base c =
    let here : BlockAt c.args.plan.now c.args.l
    c.args.progress.done c.entries_in-m.result =
    block_at c.requires.plan_laid _ c.requires.walked c.requires.done_bound _ c.entries_in-m.ensures in
    omega (arith, here)

pub overflow_mul-base : goal.overflow_mul-base
overflow_mul-base c =
    let here : BlockAt c.args.plan.now c.args.l
    c.args.progress.done c.entries_in-m.result =
    block_at c.requires.plan_laid _ c.requires.walked c.requires.done_bound _ c.entries_in-m.ensures in
    omega (arith, here)

pub overflow_add-base-2 : goal.overflow_add-base-2
overflow_add-base-2 c =
    let here : BlockAt c.args.plan.now c.args.l
    c.args.progress.done c.entries_in-m.result =
    block_at c.requires.plan_laid _ c.requires.walked c.requires.done_bound _ c.entries_in-m.ensures in
    omega (arith, here)

pub le16-requires : goal.le16-requires
le16-requires c =
    let here : BlockAt c.args.plan.now c.args.l
    c.args.progress.done c.entries_in-m.result =
    block_at c.requires.plan_laid _ c.requires.walked c.requires.done_bound _ c.entries_in-m.ensures in
    omega (arith, here)

pub breaks_beside-beside-requires : goal.breaks_beside-beside-requires
breaks_beside-beside-requires c =
    let here : BlockAt c.args.plan.now c.args.l
    c.args.progress.done c.entries_in-m.result =
    block_at c.requires.plan_laid _ c.requires.walked c.requires.done_bound _ c.entries_in-m.ensures in
    let b = here in
    (omega arith, omega arith)

pub overflow_add-base-3 : goal.overflow_add-base-3
overflow_add-base-3 c =
    let here : BlockAt c.args.plan.now c.args.l
    c.args.progress.done c.entries_in-m.result =
    block_at c.requires.plan_laid _ c.requires.walked c.requires.done_bound _ c.entries_in-m.ensures in
    omega (arith, here)

pub le16-requires-2 : goal.le16-requires-2
le16-requires-2 c =
    let here : BlockAt c.args.plan.now c.args.l
    c.args.progress.done c.entries_in-m.result =
    block_at c.requires.plan_laid _ c.requires.walked c.requires.done_bound _ c.entries_in-m.ensures in
    omega (arith, here)

pub overflow_add-result-2 : goal.overflow_add-result-2
overflow_add-result-2 c = omega (
  arith,
  walked_few c.requires.plan_laid _ c.requires.walked c.requires.done_bound _ c.entries_in-m.ensures _ _
      (rw (← c.from-behind.ensures) at c.is_break.ensures.1) c.breaks_beside-beside.ensures,
)

-- the breaks of the block and those before it are small
pub overflow_add-result-3 : goal.overflow_add-result-3
overflow_add-result-3 c = omega (
  arith,
  walked_few c.requires.plan_laid _ c.requires.walked c.requires.done_bound _ c.entries_in-m.ensures _ _
      (rw (← c.from-behind.ensures) at c.is_break.ensures.1) c.breaks_beside-beside.ensures,
)

pub returns : goal.returns
returns c = (
  walked_more c.requires.plan_laid _ c.requires.walked c.requires.done_bound _ c.entries_in-m.ensures _ _ _ _
      c.requires.done_value c.le16.ensures
      (c.from-behind.ensures ∙ c.is_break.ensures.0) c.breaks_beside-beside.ensures
      (c.from.ensures ∙ c.le16-2.ensures) (search rules),
  refl,
)
