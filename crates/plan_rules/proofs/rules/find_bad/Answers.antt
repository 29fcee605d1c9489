-- `plan_rules::rules::find_bad` meets its contract: the points passed keep the rule, the next tick's range
-- goes by the last, and the walk stands before the next point.
use mathlib.Core.Path.{◌≡◌}
use Prim.Native.Nat.{◌+◌, ◌<◌}
use native.Mathlib.Omega.{arith}
use Rattle.plan.specs.PlanDecode.{decode_plan, point_tick, plan_small}
use Rattle.plan.specs.PlanWalk.{tick_there, tick_read, point_may, point_on}
use Rattle.plan_rules.specs.PlanScan.{scans, scan_stop, scan_more}
use Rattle.plan_rules.proofs.rules.find_bad.Goals as goal

pub loop-i-init : goal.loop-i-init
loop-i-init c = search scans

pub field16-t-requires : goal.field16-t-requires
field16-t-requires c =
    let inside : c.args.from + c.loop-i.i < c.args.l.points =
    omega arith in
    tick_there c.requires.plan_laid inside c.loop-i.invariant.at

pub returns-then-is_outside : goal.returns-then-is_outside
returns-then-is_outside c =
    let inside : c.args.from + c.loop-i.i < c.args.l.points =
    omega arith in
    let read : c.field16-t.result
    ≡ point_tick (decode_plan c.args.plan.now)
    (c.args.from + c.loop-i.i) =
    tick_read c.requires.plan_laid inside c.loop-i.invariant.at
    c.field16-t.ensures.0 in
    scan_stop _ _ _ _ _ _ _ _ _ _ (plan_small c.requires.plan_laid).period_some c.loop-i.invariant
    c.loop-i-test.true read c.is_outside.ensures c.if-is_outside.true

pub next-next-requires : goal.next-next-requires
next-next-requires c =
    let inside : c.args.from + c.loop-i.i < c.args.l.points =
    omega arith in
    point_may c.requires.plan_laid _ _ inside c.loop-i.invariant.at

pub loop-i-preserved : goal.loop-i-preserved
loop-i-preserved c =
    let inside : c.args.from + c.loop-i.i < c.args.l.points =
    omega arith in
    let read : c.field16-t.result
    ≡ point_tick (decode_plan c.args.plan.now)
    (c.args.from + c.loop-i.i) =
    tick_read c.requires.plan_laid inside c.loop-i.invariant.at
    c.field16-t.ensures.0 in
    scan_more _ _ _ _ _ _ _ _ _ _ (plan_small c.requires.plan_laid).period_some c.loop-i.invariant
    c.loop-i-test.true read c.is_outside.ensures _
    c.if-is_outside.false
    (point_on c.requires.plan_laid _ _ inside c.loop-i.invariant.at c.next-next.ensures)

pub returns : goal.returns
returns c = search scans
