-- `node_bare::is_ahead` meets its contract.
use native.Mathlib.Omega.{arith}
use Rattle.search_chains.specs.Chain.{walk_first, walk_less, walk_next}
use Rattle.plan_values.specs.{Formed.profile_in, Starts.product_fits, Starts.number_fits}
use Rattle.plan_tests.specs.Giving.{head_in}
use Rattle.node_bare.specs.Ahead.{ahead_elsewhere, ahead_not, ahead_found, ahead_none}
use Rattle.node_bare.proofs.is_ahead.Goals as goal

pub loop-a-init : goal.loop-a-init
loop-a-init c = walk_first _ c.requires.chained (ahead_elsewhere _ _ _ _) c.requires.i_lt_borders.1
    c.from-a.ensures

pub overflow_mul-i : goal.overflow_mul-i
overflow_mul-i c = product_fits c.requires.checkable.formed c.requires.i_lt_borders.0
    (head_in c.requires.checkable c.loop-a-test.true c.head-head.ensures.0)

pub overflow_add-i : goal.overflow_add-i
overflow_add-i c = number_fits c.requires.checkable.formed c.requires.i_lt_borders.0
    (head_in c.requires.checkable c.loop-a-test.true c.head-head.ensures.0)

pub point_count-requires-clause-plan_laid : goal.point_count-requires-clause-plan_laid
point_count-requires-clause-plan_laid c = c.requires.checkable.formed.laid

pub point_count-requires-clause-k_lt_profiles : goal.point_count-requires-clause-k_lt_profiles
point_count-requires-clause-k_lt_profiles c =
    let h = head_in c.requires.checkable c.loop-a-test.true c.head-head.ensures.0 in
    profile_in c.requires.checkable.formed _ _ c.requires.i_lt_borders.0 h

pub returns-then-point_count-ne0 : goal.returns-then-point_count-ne0
returns-then-point_count-ne0 c = ahead_found c.requires.checkable _
    _ _ _ _ (c.loop-a.invariant.here c.loop-a-test.true) c.head-head.ensures.0
    c.point_count.ensures.0 c.loop-a-test.true c.if-point_count-ne0.true

pub offset_bounds-next-a : goal.offset_bounds-next-a
offset_bounds-next-a c = omega (
  arith,
  c.loop-a-test.true,
  c.requires.checkable.town.small.arcs_most,
)

pub bounds-next-a : goal.bounds-next-a
bounds-next-a c = omega (
  arith,
  c.loop-a-test.true,
  c.requires.checkable.town.small.arcs_most,
)

pub loop-a-smaller : goal.loop-a-smaller
loop-a-smaller c = walk_less c.loop-a.invariant c.loop-a-test.true _ c.from-a-in-loop-a.ensures

pub loop-a-preserved : goal.loop-a-preserved
loop-a-preserved c = walk_next c.loop-a.invariant c.loop-a-test.true _ c.from-a-in-loop-a.ensures
    (ahead_not c.requires.checkable _ _ _ _ _ (c.loop-a.invariant.here c.loop-a-test.true)
    c.head-head.ensures.0
    c.point_count.ensures.0
    c.if-point_count-ne0.false)

pub returns : goal.returns
returns c = ahead_none _ _ _ _ c.requires.checkable.town c.loop-a.invariant c.loop-a-test.false
