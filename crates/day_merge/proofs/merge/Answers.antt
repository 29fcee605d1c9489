-- `day_merge::merge` meets its contract: the walk stands at place p, in run k of the arc.
use native.Mathlib.Omega.{arith}
use Rattle.day_walk.specs.Walk.{at_first, at_end}
use Rattle.day_merge.specs.Merged.{walked_none, walked_end}
use Rattle.day_merge.proofs.merge.Goals as goal

pub loop-p-init : goal.loop-p-init
loop-p-init c =
    let s = c.args.sides.now in (
      omega arith,
      λ _. at_first _ _ _ s.own.listed.grid s.some.0,
      λ _. at_first _ _ _ s.arc.listed.grid (omega (arith, s.some.0, s.one_day)),
      omega arith,
      walked_none _ _ _ _ _ _ _ _ _ _ _ _ _,
    )

pub sweep-p-requires-clause-bytes : goal.sweep-p-requires-clause-bytes
sweep-p-requires-clause-bytes c = omega (arith, c.loop-p.invariant.4.long, c.requires)

pub sweep-p-requires-clause-at : goal.sweep-p-requires-clause-at
sweep-p-requires-clause-at c = (
  c.loop-p-test.true,
  c.loop-p.invariant.1 c.loop-p-test.true,
  c.loop-p.invariant.2 c.loop-p-test.true,
  c.loop-p.invariant.3,
  c.loop-p.invariant.4.order,
)

pub next-k-requires-clause-at : goal.next-k-requires-clause-at
next-k-requires-clause-at c = c.loop-p.invariant.2 c.loop-p-test.true

pub next-k-requires-clause-t_le_to : goal.next-k-requires-clause-t_le_to
next-k-requires-clause-t_le_to c = (omega (arith, c.sweep-p.ensures.ahead), c.sweep-p.ensures.arc)

pub loop-p-preserved : goal.loop-p-preserved
loop-p-preserved c =
    let s = c.args.sides.now in
    let m = at_end s.arc.listed.grid _ _ (c.loop-p.invariant.2 c.loop-p-test.true) in (
      omega (arith, c.sweep-p.ensures.arc, m, s.one_day),
      c.sweep-p.ensures.own,
      λ h. c.next-k.ensures.1 (omega (arith, h, s.one_day)),
      c.sweep-p.ensures.head,
      c.sweep-p.ensures.onward.walked _ c.loop-p.invariant.4,
    )

pub returns : goal.returns
returns c = walked_end _ _ _ _ _ _ _ _ _ _ _ _ _ _ _ _ _ c.loop-p.invariant.4 c.loop-p.invariant.0
    (omega (arith, c.loop-p-test.false)) c.paint_some.ensures
