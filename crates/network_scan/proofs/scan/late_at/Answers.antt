-- `network_scan::scan::late_at` meets its contract.
use Rattle.theory_loops.specs.Pick.{picks}
use Rattle.network_scan.specs.Scan.{late_at}
use Rattle.network_scan.proofs.scan.late_at.Goals as goal

pub returns-then-i-eq0 : goal.returns-then-i-eq0
unfolding late_at
returns-then-i-eq0 c = search picks depth 6

pub returns-then-late-i : goal.returns-then-late-i
unfolding late_at
returns-then-late-i c = search picks depth 6

pub returns-then-next-end : goal.returns-then-next-end
unfolding late_at
returns-then-next-end c = search picks depth 6

pub returns : goal.returns
unfolding late_at
returns c = search picks depth 6
