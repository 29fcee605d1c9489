-- `plan_rising::rising::is_rising` meets its contract: `Holding` holds before each profile.
use Rattle.std.proofs.Common.{◌≡◌, arith, lit<, lit≤}
use borrow.Author.{Rules.rules}
use Rattle.theory_travel.specs.Table.{entry_at}
use Rattle.plan.specs.{Plan.point_count, PlanDecode.decode_plan, PlanDecode.laid_plan, PlanDecode.plan_small}
use Rattle.plan.specs.PlanWalk.{count_there, count_read, count_may, count_on_lem}
use Rattle.plan_rising.specs.{Progress.walked_none, Rising.holding_end}
use Rattle.plan_rising.specs.Rising.{Kept, risen_no, holding_none, holding_few, holding_more}
use Rattle.plan_rising.proofs.rising.is_rising.Goals as goal

pub new-counts-requires : goal.new-counts-requires
new-counts-requires c =
    (lit< tt, lit≤ tt, omega (arith, laid_plan c.requires, plan_small c.requires))

pub loop-k-init : goal.loop-k-init
loop-k-init c = holding_none c.requires _ _ c.new-counts.ensures (walked_none c.requires _ c.start-progress.ensures)

pub field16-count-requires : goal.field16-count-requires
field16-count-requires c = count_there c.requires c.loop-k-test.true c.loop-k.invariant.counts_at

pub is_kept-kept-requires-clause-plan_laid : goal.is_kept-kept-requires-clause-plan_laid
is_kept-kept-requires-clause-plan_laid c = c.requires

pub is_kept-kept-requires-clause-from_le_points : goal.is_kept-kept-requires-clause-from_le_points
is_kept-kept-requires-clause-from_le_points c = (c.loop-k.invariant.walked.room, c.field16-count.ensures.1)

pub returns-then-not-kept : goal.returns-then-not-kept
returns-then-not-kept c = risen_no c.requires

pub overflow_add-from : goal.overflow_add-from
overflow_add-from c =
    let kept : Kept c.args.l
    (entry_at (decode_plan c.args.plan.now).ticks c.loop-k.from)
    c.loop-k.from c.field16-count.result =
    c.is_kept-kept.ensures (c.if-not-kept.false) in
    omega (arith, kept.room, (plan_small c.requires).points_most)

pub blocks-until-requires : goal.blocks-until-requires
blocks-until-requires c =
    let kept : Kept c.args.l
    (entry_at (decode_plan c.args.plan.now).ticks c.loop-k.from)
    c.loop-k.from c.field16-count.result =
    c.is_kept-kept.ensures (c.if-not-kept.false) in (
      search rules,
      omega (arith, kept.room, (plan_small c.requires).points_most),
    )

pub advance-progress-requires-clause-plan_laid : goal.advance-progress-requires-clause-plan_laid
advance-progress-requires-clause-plan_laid c =
    let kept : Kept c.args.l
    (entry_at (decode_plan c.args.plan.now).ticks c.loop-k.from)
    c.loop-k.from c.field16-count.result =
    c.is_kept-kept.ensures (c.if-not-kept.false) in
    let r = kept.room in
    c.requires

pub advance-progress-requires-clause-walked : goal.advance-progress-requires-clause-walked
advance-progress-requires-clause-walked c =
    let kept : Kept c.args.l
    (entry_at (decode_plan c.args.plan.now).ticks c.loop-k.from)
    c.loop-k.from c.field16-count.result =
    c.is_kept-kept.ensures (c.if-not-kept.false) in
    let r = kept.room in
    c.loop-k.invariant.walked.walked

pub advance-progress-requires-clause-done_le_until : goal.advance-progress-requires-clause-done_le_until
advance-progress-requires-clause-done_le_until c =
    let kept : Kept c.args.l
    (entry_at (decode_plan c.args.plan.now).ticks c.loop-k.from)
    c.loop-k.from c.field16-count.result =
    c.is_kept-kept.ensures (c.if-not-kept.false) in
    let r = kept.room in
    (omega (arith, c.loop-k.invariant.walked.done_is), omega arith)

pub returns-then-done-until : goal.returns-then-done-until
returns-then-done-until c = risen_no c.requires

pub overflow_add-some : goal.overflow_add-some
overflow_add-some c = omega (
  arith,
  plan_small c.requires,
  holding_few c.requires _ _ _ _ _ c.loop-k.invariant _ c.has_points-some.ensures.1,
)

pub overflow_add-from-in-loop-k : goal.overflow_add-from-in-loop-k
overflow_add-from-in-loop-k c = omega (arith, plan_small c.requires, c.loop-k.invariant.walked.room)

pub next-counts-requires : goal.next-counts-requires
next-counts-requires c = count_may c.requires c.loop-k-test.true c.loop-k.invariant.counts_at

pub overflow_step-k : goal.overflow_step-k
overflow_step-k c = omega (arith, plan_small c.requires, c.loop-k-test.true)

pub loop-k-preserved : goal.loop-k-preserved
loop-k-preserved c =
    let read : c.field16-count.result
    ≡ point_count (decode_plan c.args.plan.now) c.loop-k.k =
    count_read c.requires c.loop-k-test.true
    c.loop-k.invariant.counts_at c.field16-count.ensures.0 in
    let kept : Kept c.args.l
    (entry_at (decode_plan c.args.plan.now).ticks c.loop-k.from)
    c.loop-k.from c.field16-count.result =
    c.is_kept-kept.ensures (c.if-not-kept.false) in
    holding_more c.requires _ _ _ _ _ c.loop-k.invariant _ _ _ _ _ c.loop-k-test.true
    read kept c.blocks-until.ensures
    c.advance-progress.ensures c.if-done-until.false
    c.has_points-some.ensures.0
    (count_on_lem c.requires c.loop-k-test.true c.loop-k.invariant.counts_at c.next-counts.ensures)

pub returns-then-from-l : goal.returns-then-from-l
returns-then-from-l c = risen_no c.requires

pub returns : goal.returns
returns c = holding_end c.requires _ _ _ _ _ c.loop-k.invariant
    c.loop-k-test.false c.if-from-l.false
