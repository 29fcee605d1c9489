-- `network_steady::closes::close_block` meets its contract: the days of the arcs before the e-th of the block
-- close, and `sum` is the points of those.
use Rattle.std.proofs.Common.{◌+◌, ◌*◌, ◌<◌, arith, rules}
use Rattle.file_blocks.specs.Kind.{arc_per}
use Rattle.network_steady.specs.Closes.{closing_at, closing_room, closing_some, closing_few}
use Rattle.network_steady.specs.Closes.{closing_more}
use mathlib.Core.Path.{ap}
use mathlib.Core.Bool.{not}
use Rattle.network_steady.proofs.closes.close_block.Goals as goal

pub loop-e-init : goal.loop-e-init
loop-e-init c = (search rules, closing_at _ _ _ _ _ c.requires.closing (search rules))

pub is_closed-closed-requires-clause-laid : goal.is_closed-closed-requires-clause-laid
is_closed-closed-requires-clause-laid c = c.requires.laid

pub is_closed-closed-requires-clause-count_bound : goal.is_closed-closed-requires-clause-count_bound
is_closed-closed-requires-clause-count_bound c =
    let here : arc_per * c.args.j + c.loop-e.e
    < c.args.l.arcs =
    omega arith in
    (closing_room _ _ _ _ _ c.loop-e.invariant.1 here c.entry_in-arc.ensures.count, closing_some _ _ _ _ _ c.loop-e.invariant.1 here c.entry_in-arc.ensures.count)

pub overflow_add-sum : goal.overflow_add-sum
overflow_add-sum c =
    let here : arc_per * c.args.j + c.loop-e.e
    < c.args.l.arcs =
    omega arith in
    omega (
      arith,
      closing_few _ _ _ _ _ c.loop-e.invariant.1 here c.entry_in-arc.ensures.count,
    )

pub loop-e-preserved : goal.loop-e-preserved
loop-e-preserved c =
    let here : arc_per * c.args.j + c.loop-e.e
    < c.args.l.arcs =
    omega arith in (
      search rules,
      closing_more _ _ _ _ _ c.loop-e.invariant.1 here c.entry_in-arc.ensures.count _ _
          c.is_closed-closed.ensures (ap not c.if-not-closed.false) (search rules),
    )

pub returns : goal.returns
returns c = closing_at _ _ _ _ _ c.loop-e.invariant.1 (search rules)
