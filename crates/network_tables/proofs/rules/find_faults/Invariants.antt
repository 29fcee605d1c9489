-- `network_tables::rules::find_faults` meets its contract.
use Rattle.theory_travel.specs.Table.{entry_at}
use Rattle.network_scan.specs.Scan.{Scanning}
use Rattle.network_tables.proofs.rules.find_faults.Given as goal

abbrev pub invariant-loop-i : goal.invariant-loop-i
invariant-loop-i l =
    Scanning l.period (entry_at l.ticks l.from) (entry_at l.travels l.from) l.count l.i l.tick l.end l.late
