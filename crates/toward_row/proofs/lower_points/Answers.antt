-- `toward_row::lower_points` meets its contract: before tick `flat` all is lowered, from there up to the tick
-- of point k the travel is v, and it waits.
use mathlib.Core.Path.{refl, ◌∙◌}
use Prim.Native.Nat.{◌+◌, ◌≤◌, ◌<◌}
use native.Mathlib.Omega.{arith}
use lib.ListN.{length}
use Rattle.theory_travel.specs.Table.{entry_at, entry_start}
use Rattle.theory_travel.specs.Pieces.{tick_first, tick_rises, tick_below}
use Rattle.network.specs.Decode.{decode}
use Rattle.toward_row.specs.{Cut.cut_none, Lower.known_on}
use Rattle.toward_row.specs.Arcs.{flat_none, flat_more, flat_lowered, ready_next, ready_last}
use Rattle.toward_row.specs.Arcs.{arc_next, arc_last}
use borrow.Author.Rules.{rules}
use Rattle.toward_row.proofs.lower_points.Goals as goal

pub loop-k-init : goal.loop-k-init
unfolding entry_at
loop-k-init c = (
  search rules,
  tick_first c.requires.arc.day,
  entry_start (decode c.args.file.now).travels c.args.from _ c.travel-begin.ensures.0,
  search flat_none,
  search cut_none,
)

pub loop-k-preserved-then-v-w : goal.loop-k-preserved-then-v-w
unfolding entry_at
loop-k-preserved-then-v-w c =
    let h : c.loop-k.k + 1 < c.args.count = omega arith in (
      search rules,
      c.tick-b.ensures.0,
      c.if-v-w.true ∙ c.travel-w.ensures.0,
      flat_more c.requires.arc _ c.loop-k.k _ _ _ _ c.loop-k.invariant.3 c.loop-k.invariant.1
          c.loop-k.invariant.2 c.tick-b.ensures.0 c.travel-w.ensures.0 h
          c.if-v-w.true,
      c.loop-k.invariant.4,
    )

pub lower_span-fallen-requires-clause-a_le_b : goal.lower_span-fallen-requires-clause-a_le_b
unfolding entry_at
lower_span-fallen-requires-clause-a_le_b c = let h : c.loop-k.k < c.args.count = omega arith in
    let m : c.args.l.period ≤ length c.loop-k.row = omega (arith, c.loop-k.invariant.4.filled.long) in (
      c.loop-k.invariant.3.order,
      omega (arith, tick_below c.requires.arc.day c.loop-k.k _ c.loop-k.invariant.1 h),
      omega (arith, c.requires.arc.most c.loop-k.k h, c.loop-k.invariant.2),
      c.requires.arc.short,
      m,
    )

pub lower_span-fallen-requires-clause-capped : goal.lower_span-fallen-requires-clause-capped
unfolding entry_at
lower_span-fallen-requires-clause-capped c = let h : c.loop-k.k < c.args.count = omega arith in
    let m : c.args.l.period ≤ length c.loop-k.row = omega (arith, c.loop-k.invariant.4.filled.long) in (
      c.requires.period_in_bounds.1,
      known_on c.requires.period_in_bounds.2 c.loop-k.invariant.4.filled (omega arith)
          (omega (arith, tick_below c.requires.arc.day c.loop-k.k _ c.loop-k.invariant.1 h)),
    )

pub overflow_add-fallen : goal.overflow_add-fallen
unfolding entry_at
overflow_add-fallen c =
    let h : c.loop-k.k < c.args.count = omega arith in
    let n = tick_below c.requires.arc.day c.loop-k.k _ c.loop-k.invariant.1 h in
    omega (
      arith,
      n,
      c.loop-k.invariant.3.order,
      c.loop-k.invariant.4.few,
      c.lower_span-fallen.ensures.few,
      c.requires.arc.short,
    )

pub lower_piece-fallen-requires : goal.lower_piece-fallen-requires
unfolding entry_at
lower_piece-fallen-requires c =
    let h : c.loop-k.k + 1 < c.args.count = omega arith in
    let m : c.args.l.period ≤ length c.lower_span-fallen.new.row =
    omega (arith, c.loop-k.invariant.4.filled.long, c.lower_span-fallen.ensures.filled.long)
    in
    let before = known_on {e = c.args.l.period} c.requires.period_in_bounds.2 c.loop-k.invariant.4.filled
    (omega arith)
    (omega arith) in
    let known = known_on {e = c.args.l.period} before c.lower_span-fallen.ensures.filled
    c.loop-k.invariant.3.order (omega arith) in
    ready_next c.requires.arc c.requires.period_in_bounds.1 c.loop-k.k _ _ _ _ known c.loop-k.invariant.1
    c.loop-k.invariant.2 m
    c.tick-b.ensures.0
    c.travel-w.ensures.0 h

pub overflow_add-fallen-in-loop-k : goal.overflow_add-fallen-in-loop-k
unfolding entry_at
overflow_add-fallen-in-loop-k c =
    let h : c.loop-k.k + 1 < c.args.count = omega arith in
    let m = tick_rises c.requires.arc.day c.loop-k.k _ c.loop-k.invariant.1 _
    c.tick-b.ensures.0
    h in
    let n = tick_below c.requires.arc.day (c.loop-k.k + 1) _
    c.tick-b.ensures.0
    h in
    omega (
      arith,
      m,
      n,
      c.loop-k.invariant.3.order,
      c.loop-k.invariant.4.few,
      c.lower_span-fallen.ensures.few,
      c.lower_piece-fallen.ensures.few,
      c.requires.arc.short,
    )

pub loop-k-preserved : goal.loop-k-preserved
unfolding entry_at
loop-k-preserved c =
    let h : c.loop-k.k + 1 < c.args.count = omega arith in
    let before =
    flat_lowered _ _ _ _ _ _ _ _ _ _ _ c.loop-k.invariant.4 c.loop-k.invariant.3
    c.lower_span-fallen.ensures in (
      search rules,
      c.tick-b.ensures.0,
      c.travel-w.ensures.0,
      flat_none _ _ _,
      arc_next c.requires.arc _ _ _ _ c.loop-k.k _ _ _ _ _ _ before c.lower_piece-fallen.ensures
          c.loop-k.invariant.1 c.loop-k.invariant.2 c.tick-b.ensures.0 c.travel-w.ensures.0 h,
    )

pub lower_span-fallen-requires-2-clause-a_le_b : goal.lower_span-fallen-requires-2-clause-a_le_b
unfolding entry_at
lower_span-fallen-requires-2-clause-a_le_b c = let h : c.loop-k.k < c.args.count = omega arith in
    let m : c.args.l.period ≤ length c.loop-k.row = omega (arith, c.loop-k.invariant.4.filled.long) in (
      c.loop-k.invariant.3.order,
      omega (arith, tick_below c.requires.arc.day c.loop-k.k _ c.loop-k.invariant.1 h),
      omega (arith, c.requires.arc.most c.loop-k.k h, c.loop-k.invariant.2),
      c.requires.arc.short,
      m,
    )

pub lower_span-fallen-requires-2-clause-capped : goal.lower_span-fallen-requires-2-clause-capped
unfolding entry_at
lower_span-fallen-requires-2-clause-capped c = let h : c.loop-k.k < c.args.count = omega arith in
    let m : c.args.l.period ≤ length c.loop-k.row = omega (arith, c.loop-k.invariant.4.filled.long) in (
      c.requires.period_in_bounds.1,
      known_on c.requires.period_in_bounds.2 c.loop-k.invariant.4.filled (omega arith)
          (omega (arith, tick_below c.requires.arc.day c.loop-k.k _ c.loop-k.invariant.1 h)),
    )

pub overflow_add-fallen-2 : goal.overflow_add-fallen-2
unfolding entry_at
overflow_add-fallen-2 c =
    let h : c.loop-k.k < c.args.count = omega arith in
    let n = tick_below c.requires.arc.day c.loop-k.k _ c.loop-k.invariant.1 h in
    omega (
      arith,
      n,
      c.loop-k.invariant.3.order,
      c.loop-k.invariant.4.few,
      c.lower_span-fallen-2.ensures.few,
      c.requires.arc.short,
    )

pub lower_piece-requires : goal.lower_piece-requires
unfolding entry_at
lower_piece-requires c =
    let h : c.loop-k.k < c.args.count = omega arith in
    let m : c.args.l.period ≤ length c.lower_span-fallen-2.new.row =
    omega (arith, c.loop-k.invariant.4.filled.long, c.lower_span-fallen-2.ensures.filled.long)
    in
    let first =
    entry_start (decode c.args.file.now).travels c.args.from _
    c.travel-begin.ensures.0 in
    let before = known_on {e = c.args.l.period} c.requires.period_in_bounds.2 c.loop-k.invariant.4.filled
    (omega arith)
    (omega arith) in
    let known = known_on {e = c.args.l.period} before c.lower_span-fallen-2.ensures.filled
    c.loop-k.invariant.3.order (omega arith) in
    ready_last c.requires.arc c.requires.period_in_bounds.1 c.loop-k.k _ _ _ _ known c.loop-k.invariant.1
    c.loop-k.invariant.2 m refl first h

pub overflow_add-result : goal.overflow_add-result
unfolding entry_at
overflow_add-result c =
    let h : c.loop-k.k < c.args.count = omega arith in
    let n = tick_below c.requires.arc.day c.loop-k.k _ c.loop-k.invariant.1 h in
    omega (
      arith,
      n,
      c.loop-k.invariant.3.order,
      c.loop-k.invariant.4.few,
      c.lower_span-fallen-2.ensures.few,
      c.lower_piece.ensures.few,
      c.requires.arc.short,
    )

pub returns : goal.returns
unfolding entry_at
returns c =
    let h : c.loop-k.k < c.args.count = omega arith in
    let m : c.args.count ≤ c.loop-k.k + 1 = omega arith in
    let first =
    entry_start (decode c.args.file.now).travels c.args.from _
    c.travel-begin.ensures.0 in
    let before =
    flat_lowered _ _ _ _ _ _ _ _ _ _ _ c.loop-k.invariant.4 c.loop-k.invariant.3
    c.lower_span-fallen-2.ensures in
    arc_last c.requires.arc _ _ _ _ c.loop-k.k _ _ _ _ _ _ before c.lower_piece.ensures
    c.loop-k.invariant.1 c.loop-k.invariant.2 refl first h m
