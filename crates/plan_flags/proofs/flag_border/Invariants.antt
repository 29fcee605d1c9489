-- `plan_flags::flag_border` meets its contract: the arcs passed have their words with the border counted.
use mathlib.Core.Path.{◌≡◌}
use Prim.Native.Nat.{◌≤◌}
use lib.ListN.{length}
use Rattle.theory_loops.specs.Fill.{Filled}
use Rattle.network.specs.{Network.cell, Decode.decode}
use Rattle.plan_flags.specs.Words.{word_after}
use Rattle.plan_flags.proofs.flag_border.Given as goal

abbrev pub invariant-loop-a : goal.invariant-loop-a
invariant-loop-a l =
    (l.a ≤ l.a-end)
    × (l.a-end ≡ l.roads.layout.arcs)
    × (l.a-end ≤ length l.initial.words)
    × (l.c ≡ cell (decode l.roads.file.now) l.b)
    × Filled 0 l.a (word_after (decode l.roads.file.now) l.b l.initial.words) l.initial.words l.words
    × (length l.row ≡ length l.initial.row)
