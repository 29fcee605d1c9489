-- `network_rules::rules::scan_block` meets its contract: no arc before the e-th of the block is bad, and
-- `sum` is the points of those.
use Prim.Native.Nat.{◌+◌, ◌*◌, ◌≤◌}
use Rattle.file_blocks.specs.Kind.{arc_per}
use Rattle.network.specs.{Decode.decode}
use Rattle.network_rules.specs.ScanArcs.{ArcsPassed}
use Rattle.network_rules.proofs.rules.scan_block.Given as goal

abbrev pub invariant-loop-e : goal.invariant-loop-e
invariant-loop-e l = (l.e ≤ l.m) × ArcsPassed (decode l.file) (arc_per * l.j + l.e) l.sum
