use mathlib.Core.Path.{◌≡◌}
use Prim.Native.Nat.{◌≤◌}
use lib.ListN.{length}
use Rattle.network.specs.Decode.{decode}
use Rattle.plan_rounds.specs.Rounds.{points_before, PutTo}
use Rattle.plan_rounds.proofs.rounds.put_borders.Given as goal

abbrev pub invariant-loop-i : goal.invariant-loop-i
invariant-loop-i l =
    (l.i ≤ l.k.borders) × (length l.work ≡ length l.initial.work)
    × (l.q ≡ points_before (decode l.borders.roads.file.now) l.i)
    × PutTo (decode l.borders.roads.file.now) l.k l.i l.words l.initial.out l.out
    × (l.borders.roads.layout.period ≤ length l.row)
