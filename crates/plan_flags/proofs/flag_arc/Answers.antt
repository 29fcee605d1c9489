-- `plan_flags::flag_arc` meets its contract: each way out has the word with the flag that the arc has earned.
use mathlib.Core.Path.{refl}
use native.Mathlib.Omega.{arith}
use Rattle.search_chains.specs.Town.{tail_node, head_node}
use Rattle.plan_flags.specs.Words.{flag_stands, flag_room, flag_left, flag_set}
use Rattle.plan_flags.specs.Bounds.{ruled_out}
use Rattle.plan_flags.proofs.flag_arc.Goals as goal

pub returns-then-is_set : goal.returns-then-is_set
returns-then-is_set c = (flag_stands _ _ c.is_set.ensures _ c.if-is_set.true, refl)

pub bounds-low-v : goal.bounds-low-v
bounds-low-v c = omega (
  arith,
  head_node c.args.roads.now.ready.primed.town _ _ c.requires.a_lt_arcs.0 c.head-v.ensures.0,
  c.args.roads.now.ready.primed.town.small.nodes_most,
)

pub bounds-room-u : goal.bounds-room-u
bounds-room-u c = omega (
  arith,
  tail_node c.args.roads.now.ready.primed.town _ _ c.requires.a_lt_arcs.0 c.tail-u.ensures.0,
  c.args.roads.now.ready.primed.town.small.nodes_most,
)

pub returns-then-ruled_out : goal.returns-then-ruled_out
returns-then-ruled_out c =
    let none = ruled_out c.args.roads.now.ready.primed c.requires.worked.0 c.requires.worked.1
    c.requires.a_lt_arcs.0
    c.tail-u.ensures.0
    c.head-v.ensures.0
    (c.args.roads.now.leasts.arc _ c.requires.a_lt_arcs.0)
    (omega (arith, c.if-ruled_out.true, c.from.ensures, c.from-2.ensures, c.from-3.ensures)) in (
      flag_left _ _ c.is_set.ensures none c.if-is_set.false refl,
      refl,
    )

pub overflow_add-result : goal.overflow_add-result
overflow_add-result c =
    omega (
      arith,
      c.alone.ensures,
      flag_room c.args.word c.args.c c.is_set.ensures (omega arith)
          c.requires.a_lt_arcs.2 c.if-is_set.false,
    )

pub returns-then-is_start : goal.returns-then-is_start
returns-then-is_start c = (
  flag_set _ _ c.is_set.ensures c.is_start.ensures.0 c.if-is_set.false c.alone.ensures
      c.if-is_start.true,
  c.is_start.ensures.1,
)

pub returns : goal.returns
returns c = (
  flag_left _ _ c.is_set.ensures c.is_start.ensures.0 c.if-is_set.false c.if-is_start.false,
  c.is_start.ensures.1,
)
