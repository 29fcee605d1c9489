-- `network_scan::scan::late_in` meets its contract.
use Rattle.theory_loops.specs.Pick.{picks}
use Rattle.network_scan.specs.ScanAll.{late_in}
use Rattle.network_scan.proofs.scan.late_in.Goals as goal

pub returns-then-late-points : goal.returns-then-late-points
unfolding late_in
returns-then-late-points c = search picks depth 6

pub returns-then-at-count : goal.returns-then-at-count
unfolding late_in
returns-then-at-count c = search picks depth 6

pub returns : goal.returns
unfolding late_in
returns c = search picks depth 6
