-- `network_scan::scan::scan_points` meets its contract.
use Rattle.network.specs.{Decode.decode}
use Rattle.network_scan.specs.{ScanAll.ScanningAll}
use Rattle.network_scan.proofs.scan.scan_points.Given as goal

abbrev pub invariant-loop-a : goal.invariant-loop-a
invariant-loop-a l =
    ScanningAll (decode l.file) l.l.period l.arcs l.points l.a l.from l.late
