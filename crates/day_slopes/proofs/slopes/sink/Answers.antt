-- `day_slopes::slopes::sink` meets its contract.
use native.Mathlib.{Nat.le_of_lt, Omega.arith}
use mathlib.Core.Path.{◌≡◌, refl}
use Prim.Native.Nat.{◌+◌, ◌-◌, ◌*◌, ◌<◌}
use Rattle.day_slopes.specs.Walk.{sink_may, sink_next, sink_fits, sink_entry, walks}
use Rattle.day_slopes.specs.Held.{held_room}
use Rattle.day_slopes.specs.Steep.{steep_start, sink_more, sink_last}
use borrow.Author.Rules.{rules}
use Rattle.day_slopes.proofs.slopes.sink.Goals as goal

pub loop-x-init : goal.loop-x-init
loop-x-init c = (
  search rules,
  search rules,
  search walks,
  steep_start c.requires.room _ _ (c.args.p.v * 4294967296 + 4294967295) 0 refl,
)

pub put-requires : goal.put-requires
put-requires c =
    let r = held_room c.requires.room c.loop-x.invariant.3 (omega (arith, c.loop-x-test.true)) in
    (r.0, r.1, omega (arith, c.requires.room.last, c.loop-x-test.true))

pub overflow_sub-parts : goal.overflow_sub-parts
overflow_sub-parts c =
    let m =
    sink_may c.args.p.a c.args.p.v c.args.p.b c.args.p.w (c.from.result * 4294967296 + 4294967295) _
    c.requires.room.apart
    (omega (arith, c.requires.room.last)) (rw c.from.ensures) c.requires.w_lt_v
    c.step_up-step.ensures
    (omega arith) (omega arith) in
    sink_fits _ _ c.args.p.a _ c.loop-x.x c.args.p.b c.loop-x.invariant.0 (omega (arith, c.loop-x-test.true))
    m c.loop-x.invariant.2

pub loop-x-preserved : goal.loop-x-preserved
loop-x-preserved c =
    let h : c.loop-x.x < c.args.p.b = omega arith in
    let m =
    sink_may c.args.p.a c.args.p.v c.args.p.b c.args.p.w (c.from.result * 4294967296 + 4294967295) _
    c.requires.room.apart
    (omega (arith, c.requires.room.last)) (rw c.from.ensures) c.requires.w_lt_v
    c.step_up-step.ensures
    (omega arith) (omega arith) in (
      search rules,
      search rules,
      sink_next _ _ c.args.p.a _ c.loop-x.x c.args.p.b c.loop-x.invariant.0 h m c.loop-x.invariant.2,
      sink_more c.requires.room _ _ _ _ (rw c.from.ensures) _ _ _ _ c.loop-x.x _
          c.loop-x.invariant.3 c.loop-x.invariant.0 h (le_of_lt c.requires.w_lt_v)
          c.step_up-step.ensures
          (sink_entry _ _ c.args.p.a _ c.loop-x.x c.args.p.b c.loop-x.invariant.0 h _
          c.wholes.ensures c.loop-x.invariant.2)
          c.put.ensures.0
          c.put.ensures.1,
    )

pub put-requires-2 : goal.put-requires-2
put-requires-2 c =
    let r = held_room c.requires.room c.loop-x.invariant.3 (omega (arith, c.requires.room.apart)) in
    (omega (arith, r.0, c.loop-x-test.false), omega (arith, r.1, c.loop-x-test.false), c.requires.room.last)

pub returns : goal.returns
returns c =
    let h : c.loop-x.x < c.args.p.b = omega (arith, c.requires.room.apart) in
    let z : c.args.p.b ≡ c.loop-x.x + 1 = omega (arith, c.requires.room.apart) in
    let q : c.args.p.b - 1 ≡ c.loop-x.x = omega arith in
    sink_last c.requires.room _ _ _ _ (rw c.from.ensures) _ _ _ _ c.loop-x.x _
    c.loop-x.invariant.3 c.loop-x.invariant.0 h (le_of_lt c.requires.w_lt_v)
    c.step_up-step.ensures
    (sink_entry _ _ c.args.p.a _ c.loop-x.x c.args.p.b c.loop-x.invariant.0 h _
    c.wholes-2.ensures c.loop-x.invariant.2) z
    (rw q at c.put-2.ensures.0)
    (rw q at c.put-2.ensures.1)
