-- `network_tables::rules::find_faults` meets its contract.
use Rattle.network_scan.specs.Scan.{scan_more, scans}
use Rattle.network_tables.proofs.rules.find_faults.Goals as goal

pub loop-i-init : goal.loop-i-init
loop-i-init c = search scans

pub returns-then-bad_point : goal.returns-then-bad_point
returns-then-bad_point c = search scans

pub loop-i-preserved : goal.loop-i-preserved
loop-i-preserved c =
    scan_more _ _ _ _ _ _ _ _ _ _ _ _ c.loop-i.invariant
    c.loop-i-test.true
    c.entry-t.ensures.0 c.entry-v.ensures.0
    c.bad_point.ensures _ c.if-bad_point.false c.late_at-late.ensures

pub returns : goal.returns
returns c = search scans
