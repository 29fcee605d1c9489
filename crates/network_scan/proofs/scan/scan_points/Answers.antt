-- `network_scan::scan::scan_points` meets its contract.
use native.Mathlib.Omega.{arith}
use Rattle.network.specs.{Decode.laid_small, Decode.laid_sizes}
use Rattle.network_scan.specs.{ScanAll.all_few, ScanAll.all_start, ScanAll.alls}
use Rattle.network_scan.specs.ScanAll.{all_stop, all_more}
use Rattle.network_scan.proofs.scan.scan_points.Goals as goal

pub loop-a-init : goal.loop-a-init
loop-a-init c =
    let s = laid_sizes c.requires.laid in
    all_start _ _ _ _ c.requires.counted s.period s.arcs s.points
    (laid_small c.requires.laid).points_most

pub find_faults-requires-clause-count_bound : goal.find_faults-requires-clause-count_bound
find_faults-requires-clause-count_bound c = (search alls, search alls)

pub overflow_add-result : goal.overflow_add-result
overflow_add-result c = omega (
  arith,
  all_few _ _ _ _ _ _ _ _ c.loop-a.invariant
      c.loop-a-test.true c.count-count.ensures.0,
)

pub returns-in-Err : goal.returns-in-Err
returns-in-Err c =
    all_stop _ _ _ _ _ _ _ _ c.loop-a.invariant c.loop-a-test.true c.count-count.ensures.0 _ c.in-Err.ensures

pub late_in-late-requires : goal.late_in-late-requires
late_in-late-requires c = search alls

pub overflow_add-from : goal.overflow_add-from
overflow_add-from c = omega (
  arith,
  all_few _ _ _ _ _ _ _ _ c.loop-a.invariant
      c.loop-a-test.true c.count-count.ensures.0,
)

pub loop-a-preserved : goal.loop-a-preserved
loop-a-preserved c =
    all_more _ _ _ _ _ _ _ _ c.loop-a.invariant c.loop-a-test.true c.count-count.ensures.0 _ _
    c.in-Ok.ensures c.late_in-late.ensures

pub returns : goal.returns
returns c = search alls
