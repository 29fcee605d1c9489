use mathlib.Core.Path.{refl, sym, ◌∙◌}
use native.Mathlib.Omega.{arith}
use Rattle.plan_rounds.specs.Rounds.{counted_none, put_none, put_more, rows_low}
use Rattle.plan_rounds.specs.Rounds.{profiles_few, profiles_room, points_room, listed, put_kept}
use Rattle.plan_rounds.specs.{Rounds.put_end, Rounds.border_index_lem, Rounds.aimed_node}
use borrow.Author.Rules.{rules}
use Rattle.plan_rounds.proofs.rounds.put_borders.Goals as goal

pub loop-i-init : goal.loop-i-init
loop-i-init c = (
  search rules,
  refl,
  counted_none c.args.borders.now.roads.file.now,
  put_none c.args.borders.now.roads.ready.primed.town c.requires.held.0 c.requires.work_len.1,
  c.args.borders.now.roads.ready.primed.town.small.period_most,
)

pub travels_to-b-requires-clause-i_bound : goal.travels_to-b-requires-clause-i_bound
travels_to-b-requires-clause-i_bound c = (
  listed c.args.borders.now.roads.ready.primed.town c.requires.held.0 c.loop-i-test.true,
  c.loop-i.invariant.1 ∙ c.requires.work_len.0,
  c.loop-i.invariant.4,
)

pub travels_to-b-requires-clause-zeros : goal.travels_to-b-requires-clause-zeros
travels_to-b-requires-clause-zeros c = (refl, refl)

pub flag_border-requires-clause-b_lt_nodes : goal.flag_border-requires-clause-b_lt_nodes
flag_border-requires-clause-b_lt_nodes c = (
  aimed_node c.args.borders.now.roads.ready.primed.town
      (listed c.args.borders.now.roads.ready.primed.town c.requires.held.0 c.loop-i-test.true)
      c.travels_to-b.ensures.0,
  c.travels_to-b.ensures.2 ∙ c.loop-i.invariant.1 ∙ c.requires.work_len.0,
  omega (arith, c.travels_to-b.ensures.3, c.loop-i.invariant.4),
  omega (arith, c.loop-i.invariant.3.flags.long, c.args.borders.now.roads.ready.primed.town.sizes.arcs),
)

pub flag_border-requires-clause-worked : goal.flag_border-requires-clause-worked
flag_border-requires-clause-worked c =
    (rw (sym c.travels_to-b.ensures.0.border) at c.travels_to-b.ensures.0.worked, c.travels_to-b.ensures.1)

pub overflow_mul-i : goal.overflow_mul-i
overflow_mul-i c =
    omega (
      arith,
      profiles_few c.args.borders.now.roads.ready.primed.town c.requires.held.0 c.loop-i-test.true,
    )

pub put_rows-q-requires-clause-small : goal.put_rows-q-requires-clause-small
put_rows-q-requires-clause-small c = (
  c.args.borders.now.roads.ready.primed.town.small,
  put_kept c.requires.held.1
      c.loop-i.invariant.3,
)

pub put_rows-q-requires-clause-work_len : goal.put_rows-q-requires-clause-work_len
put_rows-q-requires-clause-work_len c =
    let h = listed c.args.borders.now.roads.ready.primed.town c.requires.held.0 c.loop-i-test.true in (
      c.travels_to-b.ensures.2 ∙ c.loop-i.invariant.1 ∙ c.requires.work_len.0,
      rows_low
          c.args.borders.now.roads.ready.primed.town h c.travels_to-b.ensures.0.worked,
    )

pub put_rows-q-requires-clause-nodes_bound : goal.put_rows-q-requires-clause-nodes_bound
put_rows-q-requires-clause-nodes_bound c = (
  profiles_room c.args.borders.now.roads.ready.primed.town
      c.requires.held.0 c.loop-i-test.true refl,
  points_room c.args.borders.now.roads.ready.primed.town
      c.requires.held.0 c.loop-i-test.true c.travels_to-b.ensures.0.worked c.loop-i.invariant.2,
)

pub overflow_step-i : goal.overflow_step-i
overflow_step-i c =
    omega (
      arith,
      border_index_lem c.args.borders.now.roads.ready.primed.town
          (listed c.args.borders.now.roads.ready.primed.town c.requires.held.0
          c.loop-i-test.true),
    )

pub loop-i-preserved : goal.loop-i-preserved
loop-i-preserved c =
    let flags = rw c.travels_to-b.ensures.0.border at c.flag_border.ensures.0 in
    let m = put_more c.args.borders.now.roads.ready.primed.town c.requires.held.0 c.loop-i-test.true
    c.travels_to-b.ensures.0.worked c.loop-i.invariant.3 flags refl
    c.loop-i.invariant.2 c.put_rows-q.ensures in (
      omega arith,
      c.travels_to-b.ensures.2 ∙ c.loop-i.invariant.1,
      m.0,
      m.1,
      omega (
        arith,
        c.travels_to-b.ensures.3,
        c.flag_border.ensures.1,
        c.loop-i.invariant.4,
      ),
    )

pub shape_of-work : goal.shape_of-work
shape_of-work c = c.loop-i.invariant.1

pub shape_of-out : goal.shape_of-out
shape_of-out c = c.loop-i.invariant.3.long

pub returns : goal.returns
returns c =
    put_end c.loop-i.invariant.3 c.loop-i.invariant.0 c.loop-i-test.false
