-- `network_tables::rules::scan_points` meets its contract.
use mathlib.Core.Path.{refl}
use native.Mathlib.Omega.{arith}
use Rattle.network_scan.specs.ScanAll.{all_start, all_room, all_some, all_few, all_stop, all_more, alls}
use borrow.Author.Rules.{rules}
use Rattle.network_tables.proofs.rules.scan_points.Goals as goal

pub loop-a-init : goal.loop-a-init
loop-a-init c =
    all_start _ _ _ _ c.requires.counted refl refl refl c.requires.travels_len.1

pub find_faults-requires-clause-count_in_bounds : goal.find_faults-requires-clause-count_in_bounds
find_faults-requires-clause-count_in_bounds c =
    let room = all_room _ _ _ _ _ _ _ _ c.loop-a.invariant c.loop-a-test.true c.entry-count.ensures.0 in
    (omega (arith, room), omega (arith, room))

pub find_faults-requires-clause-count_nonzero : goal.find_faults-requires-clause-count_nonzero
find_faults-requires-clause-count_nonzero c = (
  all_some _ _ _ _ _ _ _ _ c.loop-a.invariant c.loop-a-test.true c.entry-count.ensures.0,
  search rules,
)

pub overflow_add-result : goal.overflow_add-result
overflow_add-result c = omega (
  arith,
  all_few _ _ _ _ _ _ _ _ c.loop-a.invariant
      c.loop-a-test.true c.entry-count.ensures.0,
)

pub returns-in-Err : goal.returns-in-Err
returns-in-Err c =
    all_stop _ _ _ _ _ _ _ _ c.loop-a.invariant c.loop-a-test.true c.entry-count.ensures.0 _ c.in-Err.ensures

pub late_in-late-requires : goal.late_in-late-requires
late_in-late-requires c = search alls

pub overflow_add-from : goal.overflow_add-from
overflow_add-from c = omega (
  arith,
  all_few _ _ _ _ _ _ _ _ c.loop-a.invariant
      c.loop-a-test.true c.entry-count.ensures.0,
)

pub loop-a-preserved : goal.loop-a-preserved
loop-a-preserved c =
    all_more _ _ _ _ _ _ _ _ c.loop-a.invariant c.loop-a-test.true c.entry-count.ensures.0 _ _
    c.in-Ok.ensures c.late_in-late.ensures

pub returns : goal.returns
returns c = search alls
