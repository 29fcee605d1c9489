-- `network_scan::scan::is_misplaced` meets its contract.
use Rattle.theory_loops.specs.Pick.{picks}
use Rattle.network_scan.specs.Scan.{misplaced}
use Rattle.network_scan.proofs.scan.is_misplaced.Goals as goal

pub returns-then-i-eq0 : goal.returns-then-i-eq0
unfolding misplaced
returns-then-i-eq0 c = search picks

pub returns : goal.returns
unfolding misplaced
returns c = search picks
