-- `dimacs_text::judge::read` meets its contract.
use Prim.Native.Nat.{◌+◌, ◌-◌}
use lib.ListN.{length}
use Rattle.dimacs_reading.specs.Reading.{ReadTo}
use Rattle.dimacs_text.specs.Noting.{NotedTo}
use Rattle.dimacs_text.proofs.judge.read.Given as goal

abbrev pub invariant-loop-at : goal.invariant-loop-at
invariant-loop-at l =
    ReadTo l.text l.at l.r × NotedTo l.text l.at l.r l.roads

abbrev pub decreases-loop-at : goal.decreases-loop-at
decreases-loop-at l = length l.text + 1 - l.at
