-- `plan_flags::flag_border` meets its contract: the arcs passed have their words with the border counted.
use mathlib.Core.Path.{refl, ◌∙◌}
use Prim.Native.Nat.{◌≤◌}
use native.Mathlib.Omega.{arith}
use lib.ListN.{length}
use Rattle.theory_loops.specs.Fill.{fill_none, fill_up, fill_end}
use Rattle.plan_flags.specs.Words.{cell_below, cell_few, word_next, flags_more}
use borrow.Author.Rules.{rules}
use Rattle.plan_flags.proofs.flag_border.Goals as goal

pub loop-a-init : goal.loop-a-init
loop-a-init c = (search rules, search rules, search rules, c.cell-c.ensures.0, fill_none _ _ _, refl)

pub flag_arc-requires-clause-a_lt_arcs : goal.flag_arc-requires-clause-a_lt_arcs
flag_arc-requires-clause-a_lt_arcs c = let long : c.args.roads.now.layout.period ≤ length c.loop-a.row = omega
    (arith, c.loop-a.invariant.5, c.requires.b_lt_nodes.2) in (
      omega arith,
      c.requires.b_lt_nodes.0,
      cell_few c.args.roads.now.ready.primed.town c.requires.b_lt_nodes.0 c.loop-a.invariant.3,
      c.requires.b_lt_nodes.1,
      long,
    )

pub flag_arc-requires-clause-worked : goal.flag_arc-requires-clause-worked
flag_arc-requires-clause-worked c = c.requires.worked

pub offset_bounds-words-a-in-loop-a : goal.offset_bounds-words-a-in-loop-a
offset_bounds-words-a-in-loop-a c =
    omega (
      arith,
      c.loop-a.invariant.1,
      c.loop-a-test.true,
      c.args.roads.now.ready.primed.town.small.arcs_most,
    )

pub bounds-words-a-in-loop-a : goal.bounds-words-a-in-loop-a
bounds-words-a-in-loop-a c =
    omega (
      arith,
      c.loop-a.invariant.1,
      c.loop-a-test.true,
      c.args.roads.now.ready.primed.town.small.arcs_most,
    )

pub overflow_step-a : goal.overflow_step-a
overflow_step-a c =
    omega (
      arith,
      c.loop-a.invariant.1,
      c.loop-a-test.true,
      c.args.roads.now.ready.primed.town.small.arcs_most,
    )

pub loop-a-preserved : goal.loop-a-preserved
loop-a-preserved c = (
  search rules,
  c.loop-a.invariant.1,
  c.loop-a.invariant.2,
  c.loop-a.invariant.3,
  fill_up _ _ _ _ _ _ c.loop-a.invariant.4 (omega arith) (omega arith)
      (word_next _ _ _ _ _ _ _ c.loop-a.invariant.4 c.loop-a.invariant.3 c.flag_arc.ensures.0),
  c.flag_arc.ensures.1 ∙ c.loop-a.invariant.5,
)

pub returns : goal.returns
returns c =
    let flags = flags_more _ _ _ _ _ (c.loop-a.invariant.1 ∙ c.args.roads.now.ready.primed.town.sizes.arcs)
    (cell_below c.args.roads.now.ready.primed.town c.requires.b_lt_nodes.0 refl)
    (fill_end _ _ _ _ _ _ c.loop-a.invariant.4 c.loop-a.invariant.0 c.loop-a-test.false) in
    (flags, c.loop-a.invariant.5)
