-- `day_merge::sweep` meets its contract: the walk stands at tick t, in run i of the node, and in run j of the
-- head at the tick at which the arc ends.
use mathlib.Core.Path.{◌≡◌, refl, sym, ◌∙◌, ap, subst}
use Prim.Native.Nat.{ℕ, ◌+◌, ◌-◌, ◌%◌, ◌<◌}
use native.Mathlib.Omega.{arith}
use Rattle.day_walk.specs.Walk.{At, at_end, at_still, later}
use Rattle.day_merge.specs.Merged.{onward_none, onward_more, turned_order}
use Rattle.day_merge.proofs.sweep.Goals as goal

pub ends-e-requires : goal.ends-e-requires
ends-e-requires c =
    let s = c.args.sides.now in (
      c.requires.at.0,
      omega (arith, c.from.ensures, s.short.most _ c.requires.at.2.below),
      s.some.1,
    )

pub seek-j-requires : goal.seek-j-requires
seek-j-requires c = (c.requires.at.3, omega (arith, c.ends-e.ensures.1, c.args.sides.now.one_day))

pub loop-t-init : goal.loop-t-init
loop-t-init c =
    let y : c.ends-e.result + (c.args.p.t - c.args.p.t) ≡ c.ends-e.result = omega arith in (
      omega arith,
      omega (arith, c.min-stop.ensures, c.start.ensures, c.requires.at.2.to, c.ends-e.ensures.1),
      λ _. c.requires.at.1,
      λ _. rw y c.seek-j.ensures,
      omega (arith, c.seek-j.ensures.below),
      c.requires.at.4,
      refl,
      onward_none _ _ _ _ _ _ _ _ _ _ _ _ _ _ _,
    )

pub until-to-requires-clause-one_day : goal.until-to-requires-clause-one_day
until-to-requires-clause-one_day c = (c.args.sides.now.one_day.1, c.args.sides.now.some.1)

pub until-to-requires-clause-at : goal.until-to-requires-clause-at
until-to-requires-clause-at c =
    let s = c.args.sides.now in
    let m = at_end s.arc.listed.grid _ _ c.requires.at.2 in
    let o : c.loop-t.t < s.own.period =
    omega (arith, c.loop-t-test.true, c.min-stop.ensures, c.start.ensures, m, s.one_day) in
    (c.loop-t.invariant.2 o, c.loop-t.invariant.3 c.loop-t-test.true, c.loop-t-test.true)

pub judge-more-requires : goal.judge-more-requires
judge-more-requires c =
    let s = c.args.sides.now in
    let m = at_end s.arc.listed.grid _ _ c.requires.at.2 in
    let o : c.loop-t.t < s.own.period =
    omega (arith, c.loop-t-test.true, c.min-stop.ensures, c.start.ensures, m, s.one_day) in
    ((c.loop-t.invariant.2 o).below, (c.loop-t.invariant.3 c.loop-t-test.true).below)

pub turn-since-requires : goal.turn-since-requires
turn-since-requires c =
    let s = c.args.sides.now in
    let m = at_end s.arc.listed.grid _ _ c.requires.at.2 in
    let o : c.loop-t.t < s.own.period =
    omega (arith, c.loop-t-test.true, c.min-stop.ensures, c.start.ensures, m, s.one_day) in
    (c.loop-t.invariant.5, omega (arith, c.loop-t.invariant.6, o, c.requires.bytes))

pub next-i-requires-clause-at : goal.next-i-requires-clause-at
next-i-requires-clause-at c =
    let s = c.args.sides.now in
    let m = at_end s.arc.listed.grid _ _ c.requires.at.2 in
    let o : c.loop-t.t < s.own.period =
    omega (arith, c.loop-t-test.true, c.min-stop.ensures, c.start.ensures, m, s.one_day) in
    c.loop-t.invariant.2 o

pub next-i-requires-clause-t_le_to : goal.next-i-requires-clause-t_le_to
next-i-requires-clause-t_le_to c = (omega (arith, c.until-to.ensures.some), c.until-to.ensures.own)

pub overflow_add-end-in-loop-t : goal.overflow_add-end-in-loop-t
overflow_add-end-in-loop-t c =
    let s = c.args.sides.now in
    let n = at_end s.head.listed.grid _ _ (c.loop-t.invariant.3 c.loop-t-test.true) in
    omega (
      arith,
      c.until-to.ensures.some,
      c.until-to.ensures.head,
      (c.loop-t.invariant.3 c.loop-t-test.true).to,
      n,
      s.one_day,
      s.some,
    )

pub next-j-requires-clause-at : goal.next-j-requires-clause-at
next-j-requires-clause-at c = c.loop-t.invariant.3 c.loop-t-test.true

pub next-j-requires-clause-t_le_to : goal.next-j-requires-clause-t_le_to
next-j-requires-clause-t_le_to c = (
  omega arith,
  omega (
    arith,
    c.until-to.ensures.some,
    c.until-to.ensures.head,
    (c.loop-t.invariant.3 c.loop-t-test.true).to,
  ),
)

pub loop-t-preserved : goal.loop-t-preserved
loop-t-preserved c =
    let s = c.args.sides.now in
    let m = at_end s.arc.listed.grid _ _ c.requires.at.2 in
    let o : c.loop-t.t < s.own.period =
    omega (arith, c.loop-t-test.true, c.min-stop.ensures, c.start.ensures, m, s.one_day) in
    let f : c.ends-e.result + (c.loop-t.t - c.args.p.t) < s.own.period =
    omega (arith, c.loop-t-test.true, c.min-stop.ensures, c.ends-e.ensures.1) in
    let is =
    c.ends-e.ensures.0 ∙ ap (λ (y : ℕ). (c.args.p.t + y) % s.own.period) c.from.ensures in
    let v : c.ends-e.result + (c.loop-t.t - c.args.p.t) + (c.until-to.result - c.loop-t.t)
    ≡ c.ends-e.result + (c.until-to.result - c.args.p.t) =
    omega (arith, c.loop-t.invariant.0, c.until-to.ensures.some) in (
      omega (arith, c.loop-t.invariant.0, c.until-to.ensures.some),
      c.until-to.ensures.arc,
      c.next-i.ensures.1,
      λ k. subst (λ (x : ℕ). At s.head.starts.now s.head.count c.next-j.result x) v
          (c.next-j.ensures.1 (omega (arith, v, k, c.min-stop.ensures, c.ends-e.ensures.1, s.one_day))),
      c.next-j.ensures.0,
      omega (arith, turned_order c.turn-since.ensures c.loop-t.invariant.5, c.until-to.ensures.some),
      c.turn-since.ensures.painting.long ∙ c.loop-t.invariant.6,
      onward_more _ _ _ _ _ _ _ _ _ _ _ _ _ _ _ _ _ c.loop-t.i _ c.loop-t.j _ _ _ _ _ _ _ _
          c.loop-t.invariant.7 (c.loop-t.invariant.2 o)
          (at_still s.arc.listed.grid _ _ _ c.requires.at.2 c.loop-t.invariant.0
          (omega (arith, c.loop-t-test.true, c.min-stop.ensures, c.start.ensures)))
          (c.loop-t.invariant.3 c.loop-t-test.true)
          (sym (later c.args.p.t _ _ c.ends-e.result c.loop-t.t (omega (arith, o)) is c.loop-t.invariant.0 f))
          c.until-to.ensures (omega (arith, c.min-stop.ensures, c.start.ensures)) c.judge-more.ensures
          c.turn-since.ensures,
    )

pub shape_of-marks : goal.shape_of-marks
shape_of-marks c = c.loop-t.invariant.6

pub returns : goal.returns
returns c = record {
  ahead = omega (
    arith,
    c.loop-t-test.false,
    c.min-stop.ensures,
    c.start.ensures,
    c.requires.at.2.to,
    c.ends-e.ensures.1,
  );
  arc = omega (arith, c.loop-t.invariant.1, c.min-stop.ensures, c.start.ensures);
  own = c.loop-t.invariant.2;
  head = c.loop-t.invariant.4;
  onward = c.loop-t.invariant.7;
}
