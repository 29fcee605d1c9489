-- `network_steady::joins::count_joins` meets its contract: `Counting` holds before each block.
use Rattle.network.specs.Decode.{decode}
use Rattle.network_steady.specs.Joins.{Counting}
use Rattle.network_steady.proofs.joins.count_joins.Given as goal

abbrev pub invariant-loop-j : goal.invariant-loop-j
invariant-loop-j l =
    Counting (decode l.file) l.l l.runs l.j l.last l.count
