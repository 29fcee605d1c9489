use mathlib.Core.Path.{refl, ◌∙◌}
use Rattle.network.specs.{Town.partition_of, Decode.decode}
use Rattle.plan.specs.{Border.border_count}
use Prim.Native.Nat.{◌<◌}
use native.Mathlib.Omega.{arith}
use Rattle.plan_rounds.specs.Rounds.{counted_none, counted_all, counted_many}
use Rattle.plan_rounds.specs.Rounds.{rows_low, counted_more, counted_few}
use borrow.Author.Rules.{rules}
use Rattle.plan_rounds.proofs.rounds.count_points.Goals as goal

pub loop-i-init : goal.loop-i-init
loop-i-init c = (
  search rules,
  refl,
  counted_none c.args.borders.now.roads.file.now,
  search rules,
  c.args.borders.now.roads.ready.primed.town.small.period_most,
  refl,
)

pub travels_to-requires-clause-i_bound : goal.travels_to-requires-clause-i_bound
travels_to-requires-clause-i_bound c = (
  omega (arith, c.loop-i.invariant.5, c.args.borders.now.whole),
  c.loop-i.invariant.1 ∙ c.requires,
  c.loop-i.invariant.4,
)

pub travels_to-requires-clause-zeros : goal.travels_to-requires-clause-zeros
travels_to-requires-clause-zeros c = (refl, refl)

pub count_rows-seen-requires-clause-small : goal.count_rows-seen-requires-clause-small
count_rows-seen-requires-clause-small c =
    let i : c.loop-i.i < border_count (partition_of (decode c.args.borders.now.roads.file.now)) =
    omega (arith, c.loop-i.invariant.5, c.args.borders.now.whole) in
    c.args.borders.now.roads.ready.primed.town.small

pub count_rows-seen-requires-clause-work_len : goal.count_rows-seen-requires-clause-work_len
count_rows-seen-requires-clause-work_len c =
    let i : c.loop-i.i < border_count (partition_of (decode c.args.borders.now.roads.file.now)) =
    omega (arith, c.loop-i.invariant.5, c.args.borders.now.whole) in
    (omega arith, rows_low c.args.borders.now.roads.ready.primed.town i c.travels_to.ensures.0.worked)

pub overflow_add-seen : goal.overflow_add-seen
overflow_add-seen c =
    omega (
      arith,
      c.loop-i.invariant.3,
      counted_few c.args.borders.now.roads.file.now c.args.borders.now.roads.ready.primed.town.small
          c.travels_to.ensures.0 c.count_rows-seen.ensures,
    )

pub returns-then-seen-gt-MOST_POINTS : goal.returns-then-seen-gt-MOST_POINTS
returns-then-seen-gt-MOST_POINTS c =
    let i : c.loop-i.i < border_count (partition_of (decode c.args.borders.now.roads.file.now)) =
    omega (arith, c.loop-i.invariant.5, c.args.borders.now.whole) in
    counted_many c.args.borders.now.roads.file.now
    (counted_more c.args.borders.now.roads.file.now c.args.borders.now.roads.ready.primed.town i
    c.travels_to.ensures.0 c.loop-i.invariant.2 c.count_rows-seen.ensures)
    (omega arith) c.if-seen-gt-MOST_POINTS.true

pub loop-i-preserved : goal.loop-i-preserved
loop-i-preserved c =
    let i : c.loop-i.i < border_count (partition_of (decode c.args.borders.now.roads.file.now)) =
    omega (arith, c.loop-i.invariant.5, c.args.borders.now.whole) in (
      omega arith,
      omega arith,
      counted_more c.args.borders.now.roads.file.now c.args.borders.now.roads.ready.primed.town i
          c.travels_to.ensures.0
          c.loop-i.invariant.2
          c.count_rows-seen.ensures,
      c.if-seen-gt-MOST_POINTS.false,
      omega (arith, c.travels_to.ensures.3, c.loop-i.invariant.4),
      c.loop-i.invariant.5,
    )

pub returns : goal.returns
returns c =
    counted_all c.args.borders.now.roads.file.now c.loop-i.invariant.2
    (omega (arith, c.loop-i.invariant.5, c.args.borders.now.whole))
    (omega (arith, c.loop-i.invariant.5, c.args.borders.now.whole))
