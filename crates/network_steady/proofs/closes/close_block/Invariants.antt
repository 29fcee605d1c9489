-- `network_steady::closes::close_block` meets its contract: the days of the arcs before the e-th of the block
-- close, and `sum` is the points of those.
use Rattle.std.proofs.Common.{◌+◌, ◌*◌, ◌≤◌}
use Rattle.file_blocks.specs.Kind.{arc_per}
use Rattle.network.specs.Decode.{decode}
use Rattle.network_steady.specs.Closes.{Closing}
use Rattle.network_steady.proofs.closes.close_block.Given as goal

abbrev pub invariant-loop-e : goal.invariant-loop-e
invariant-loop-e l = (l.e ≤ l.m) × Closing (decode l.file) l.l (arc_per * l.j + l.e) l.sum
