-- `node_runs::look` meets its contract: an arc that is passed adds nothing.
use mathlib.Core.Path.{sym, ◌∙◌}
use native.Mathlib.Omega.{arith}
use borrow.Author.{Tests.ltb-true}
use Rattle.plan_values.specs.{Formed.profile_in, Starts.product_fits, Starts.number_fits}
use Rattle.arc_runs.specs.Brief.{brief_floor}
use Rattle.plan_tests.specs.Giving.{head_in}
use Rattle.node_runs.specs.{Adds.met_never, Adds.met_far}
use Rattle.node_runs.specs.Ready.{counted, floor_here}
use Rattle.node_runs.proofs.look.Goals as goal

pub overflow_mul-target : goal.overflow_mul-target
overflow_mul-target c = product_fits c.requires.checkable.formed c.requires.arc_lt_arcs.1
    (head_in c.requires.checkable c.requires.arc_lt_arcs.0 c.head-head.ensures.0)

pub overflow_add-target : goal.overflow_add-target
overflow_add-target c = number_fits c.requires.checkable.formed c.requires.arc_lt_arcs.1
    (head_in c.requires.checkable c.requires.arc_lt_arcs.0 c.head-head.ensures.0)

pub point_count-requires-clause-plan_laid : goal.point_count-requires-clause-plan_laid
point_count-requires-clause-plan_laid c = c.requires.checkable.formed.laid

pub point_count-requires-clause-k_lt_profiles : goal.point_count-requires-clause-k_lt_profiles
point_count-requires-clause-k_lt_profiles c = profile_in c.requires.checkable.formed _ _
    c.requires.arc_lt_arcs.1 (head_in c.requires.checkable c.requires.arc_lt_arcs.0 c.head-head.ensures.0)

pub returns-then-point_count-eq0 : goal.returns-then-point_count-eq0
returns-then-point_count-eq0 c =
    met_never c.requires.checkable c.args.target _ _ c.head-head.ensures.0 c.requires.topped.some
    (sym c.point_count.ensures.0 ∙ c.if-point_count-eq0.true)

pub bounds-lows-head : goal.bounds-lows-head
bounds-lows-head c = omega (
  arith,
  head_in c.requires.checkable c.requires.arc_lt_arcs.0 c.head-head.ensures.0,
  c.requires.checkable.formed.small.nodes_most,
)

pub returns-then-is_far : goal.returns-then-is_far
returns-then-is_far c = let some = counted c.point_count.ensures.0 c.if-point_count-eq0.false in
    met_far c.requires.checkable c.args.target _ _ c.head-head.ensures.0 c.requires.topped.some some _ _ _
    (ltb-true _ _ (sym c.is_far.ensures ∙ c.if-is_far.true)) c.requires.topped.most
    (brief_floor (c.requires.briefs.0.at _ c.requires.arc_lt_arcs.0) c.least.ensures)
    (floor_here c.requires.checkable
    ((c.requires.briefs.1.at _ (head_in c.requires.checkable c.requires.arc_lt_arcs.0
    c.head-head.ensures.0)).floor some))

pub returns : goal.returns
returns c = record {
  head = c.head-head.ensures.0;
  some = counted c.point_count.ensures.0 c.if-point_count-eq0.false;
  brief = c.requires.briefs.0.at _ c.requires.arc_lt_arcs.0;
  same = c.same_bits.ensures;
}
