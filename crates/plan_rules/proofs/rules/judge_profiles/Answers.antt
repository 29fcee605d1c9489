-- `plan_rules::rules::judge_profiles` meets its contract: `Passing` holds before each profile, and at the
-- end it tells the answer.
use mathlib.Core.Path.{◌≡◌, refl}
use Prim.Native.Nat.{◌≤◌}
use native.Mathlib.Omega.{arith}
use lib.Dec.{lit<, lit≤}
use Rattle.plan.specs.{PlanLimits.most_profiles, Plan.point_count}
use Rattle.plan.specs.PlanDecode.{decode_plan, laid_plan, plan_small, plan_sizes}
use Rattle.plan.specs.PlanWalk.{count_there, count_read, count_may, count_on_lem}
use Rattle.plan_rules.specs.PlanScanAll.{pass_start, count_taken, pass_more, sum_taken}
use Rattle.plan_rules.specs.PlanScanAll.{pass_stands, tick_within, tick_taken, ticks_passed}
use borrow.Author.Rules.{rules}
use Rattle.plan_rules.proofs.rules.judge_profiles.Goals as goal

pub new-counts-requires : goal.new-counts-requires
new-counts-requires c =
    (lit< tt, lit≤ tt, omega (arith, laid_plan c.requires, plan_small c.requires))

pub new-requires : goal.new-requires
new-requires c =
    (lit< tt, lit≤ tt, omega (arith, laid_plan c.requires, plan_small c.requires))

pub loop-k-init : goal.loop-k-init
loop-k-init c =
    pass_start _ _ _ _ (plan_sizes c.requires).points c.new-counts.ensures
    c.new.ensures

pub field16-count-requires : goal.field16-count-requires
field16-count-requires c = count_there c.requires c.loop-k-test.true c.loop-k.invariant.counts_at

pub overflow_cast-k : goal.overflow_cast-k
overflow_cast-k c =
    let few : c.args.l.profiles ≤ most_profiles =
    (plan_small c.requires).profiles_most in
    omega (arith, few)

pub returns-then-l-count : goal.returns-then-l-count
returns-then-l-count c =
    let read : c.field16-count.result
    ≡ point_count (decode_plan c.args.plan.now) c.loop-k.k =
    count_read c.requires c.loop-k-test.true
    c.loop-k.invariant.counts_at c.field16-count.ensures.0 in
    count_taken _ _ _ _ _ _ _ c.loop-k.invariant c.loop-k-test.true
    read _ c.if-l-count.true c.refused.ensures

pub scan_on-scan-requires-clause-plan_laid : goal.scan_on-scan-requires-clause-plan_laid
scan_on-scan-requires-clause-plan_laid c = search rules

pub scan_on-scan-requires-clause-from_bound : goal.scan_on-scan-requires-clause-from_bound
scan_on-scan-requires-clause-from_bound c =
    let few : c.args.l.profiles ≤ most_profiles =
    (plan_small c.requires).profiles_most in
    (omega (arith, few, c.loop-k.invariant.small), search rules)

pub scan_on-scan-requires-clause-standing : goal.scan_on-scan-requires-clause-standing
scan_on-scan-requires-clause-standing c = pass_stands _ _ _ _ _ _ c.loop-k.invariant

pub overflow_add-from : goal.overflow_add-from
overflow_add-from c =
    let few : c.args.l.profiles ≤ most_profiles =
    (plan_small c.requires).profiles_most in
    omega (arith, few, c.loop-k.invariant.small)

pub next-counts-requires : goal.next-counts-requires
next-counts-requires c = count_may c.requires c.loop-k-test.true c.loop-k.invariant.counts_at

pub loop-k-preserved : goal.loop-k-preserved
loop-k-preserved c =
    let read : c.field16-count.result
    ≡ point_count (decode_plan c.args.plan.now) c.loop-k.k =
    count_read c.requires c.loop-k-test.true
    c.loop-k.invariant.counts_at c.field16-count.ensures.0 in
    pass_more _ _ _ _ _ _ _ c.loop-k.invariant c.loop-k-test.true
    read _ _ c.if-l-count.false
    c.field16-count.ensures.1 c.scan_on-scan.ensures
    (count_on_lem c.requires c.loop-k-test.true c.loop-k.invariant.counts_at c.next-counts.ensures)

pub overflow_cast-profiles : goal.overflow_cast-profiles
overflow_cast-profiles c = omega (arith, plan_small c.requires)

pub returns-then-from-l : goal.returns-then-from-l
returns-then-from-l c =
    sum_taken _ _ _ _ _ _ c.loop-k.invariant
    c.loop-k-test.false _ c.if-from-l.true c.refused-then-from-l.ensures

pub overflow_cast-bad : goal.overflow_cast-bad
overflow_cast-bad c =
    let within =
    tick_within _ _ _ _ _ _ c.loop-k.invariant c.loop-k-test.false c.if-from-l.false _ c.in-Err.is
    in
    omega (arith, within, plan_small c.requires)

pub returns-in-Ok : goal.returns-in-Ok
returns-in-Ok c =
    ticks_passed _ _ _ _ _ _ c.loop-k.invariant
    c.loop-k-test.false _ c.if-from-l.false _ c.in-Ok.is refl

pub returns-in-Err : goal.returns-in-Err
returns-in-Err c =
    tick_taken _ _ _ _ _ _ c.loop-k.invariant
    c.loop-k-test.false _ c.if-from-l.false _ c.in-Err.is c.refused-in-Err.ensures
