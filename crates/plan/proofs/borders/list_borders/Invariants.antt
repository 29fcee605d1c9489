-- `plan::borders::list_borders` meets its contract: the marked nodes passed are listed. The two arms of the
-- branch meet, so each is taken by itself.
use mathlib.Core.{Path.◌≡◌}
use Prim.Native.Nat.{◌≤◌}
use lib.ListN.{length}
use Rattle.theory_loops.specs.Select.{Chosen}
use Rattle.network.specs.{Limits.most_nodes, Network.nodes, Network.arcs, Town.partition_of}
use Rattle.network.specs.Decode.{decode}
use Rattle.plan.specs.Border.{is_border}
use Rattle.plan.specs.Marks.{Marked}
use Rattle.plan.proofs.borders.list_borders.Given as goal

abbrev pub invariant-loop-v : goal.invariant-loop-v
invariant-loop-v l =
    (l.v ≤ l.v-end)
    × (l.v-end ≡ nodes (decode l.network))
    × (l.v-end ≤ most_nodes)
    × Marked (decode l.network) (arcs (decode l.network)) l.marks
    × (length l.initial.out ≡ most_nodes)
    × Chosen l.v (is_border (partition_of (decode l.network))) l.count l.initial.out l.out
