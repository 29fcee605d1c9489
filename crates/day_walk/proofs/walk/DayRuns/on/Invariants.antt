-- `day_walk::walk::DayRuns::on` meets its contract: run i does not begin after tick e.
use Prim.Native.Nat.{◌-◌, ◌≤◌, ◌<◌}
use lib.ListN.{get_or}
use Rattle.day_walk.proofs.walk.DayRuns.on.Given as goal

abbrev pub invariant-loop-i : goal.invariant-loop-i
invariant-loop-i g l = (l.i < l.self.count) × (get_or l.self.starts.now l.i 0 ≤ l.e)

abbrev pub decreases-loop-i : goal.decreases-loop-i
decreases-loop-i g l = l.self.count - l.i
