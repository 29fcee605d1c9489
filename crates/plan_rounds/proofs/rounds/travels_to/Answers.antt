use native.Mathlib.Omega.{arith}
use Rattle.plan_rounds.specs.Rounds.{border_index_lem, border_node, border_aimed}
use Rattle.plan_rounds.proofs.rounds.travels_to.Goals as goal

pub offset_bounds-borders-i : goal.offset_bounds-borders-i
offset_bounds-borders-i c =
    omega (
      arith,
      border_index_lem c.args.borders.now.roads.ready.primed.town c.requires.i_bound.0,
      c.args.borders.now.whole,
    )

pub bounds-borders-i : goal.bounds-borders-i
bounds-borders-i c =
    omega (arith, c.requires.i_bound.0, c.args.borders.now.whole)

pub least_travels-requires : goal.least_travels-requires
least_travels-requires c = (
  border_node c.args.borders.now.roads.ready.primed.town
      c.requires.i_bound.0 c.args.borders.now.listed c.from-b.ensures,
  c.requires.i_bound.1,
  c.requires.i_bound.2,
  c.requires.zeros.0,
  c.requires.zeros.1,
)

pub returns : goal.returns
returns c = (
  border_aimed c.args.borders.now.roads.ready.primed.town
      c.requires.i_bound.0 c.args.borders.now.listed c.from-b.ensures
      c.least_travels.ensures.0,
  c.least_travels.ensures.1,
  omega arith,
  c.least_travels.ensures.2,
)
