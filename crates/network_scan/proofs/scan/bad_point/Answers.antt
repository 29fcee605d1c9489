-- `network_scan::scan::bad_point` meets its contract.
use Rattle.theory_loops.specs.Pick.{picks}
use Rattle.network_scan.specs.Scan.{bad_point_by}
use Rattle.network_scan.proofs.scan.bad_point.Goals as goal

pub returns-then-is_misplaced : goal.returns-then-is_misplaced
unfolding bad_point_by
returns-then-is_misplaced c = search picks depth 8

pub returns-then-period-t : goal.returns-then-period-t
unfolding bad_point_by
returns-then-period-t c = search picks depth 8

pub returns-then-v-lt1 : goal.returns-then-v-lt1
unfolding bad_point_by
returns-then-v-lt1 c = search picks depth 8

pub returns : goal.returns
unfolding bad_point_by
returns c = search picks depth 8
