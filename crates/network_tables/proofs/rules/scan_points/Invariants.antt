-- `network_tables::rules::scan_points` meets its contract.
use lib.ListN.{length}
use Rattle.network_scan.specs.ScanAll.{ScanningAll}
use Rattle.network_tables.specs.Cut.{bare}
use Rattle.network_tables.proofs.rules.scan_points.Given as goal

abbrev pub invariant-loop-a : goal.invariant-loop-a
invariant-loop-a l =
    ScanningAll (bare l.period l.counts l.ticks l.travels) l.period (length l.counts) l.points l.a l.from l.late
