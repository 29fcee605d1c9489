use mathlib.Core.Path.{◌≡◌}
use Rattle.network.specs.{Decode.decode}
use Rattle.plan.specs.{PlanLimits.most_profile_points}
use Prim.Native.Nat.{◌≤◌}
use lib.ListN.{length}
use Rattle.plan_rounds.specs.Rounds.{points_before}
use Rattle.plan_rounds.proofs.rounds.count_points.Given as goal

abbrev pub invariant-loop-i : goal.invariant-loop-i
invariant-loop-i l =
    (l.i ≤ l.i-end) × (length l.work ≡ length l.initial.work)
    × (l.seen ≡ points_before (decode l.borders.roads.file.now) l.i)
    × (l.seen ≤ most_profile_points)
    × (l.borders.roads.layout.period ≤ length l.row) × (l.i-end ≡ length l.borders.nodes.now)
