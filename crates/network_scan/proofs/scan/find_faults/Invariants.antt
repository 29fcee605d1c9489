-- `network_scan::scan::find_faults` meets its contract.
use Prim.Native.{Nat.◌≤◌}
use Rattle.network.specs.{Limits.most_period, Decode.decode}
use Rattle.network_scan.specs.{Scan.Scanning}
use Rattle.theory_travel.specs.Table.{entry_at}
use Rattle.network_scan.proofs.scan.find_faults.Given as goal

abbrev pub invariant-loop-i : goal.invariant-loop-i
invariant-loop-i l =
    Scanning l.l.period (entry_at (decode l.file).ticks l.from) (entry_at (decode l.file).travels l.from) l.count l.i
    l.tick l.end l.late × (l.l.period ≤ most_period)
