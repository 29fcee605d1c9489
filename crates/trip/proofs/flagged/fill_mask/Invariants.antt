-- `trip::flagged::fill_mask` meets its contract.
use mathlib.Core.Path.{◌≡◌}
use Prim.Native.Nat.{◌≤◌}
use lib.ListN.{length}
use Rattle.theory_loops.specs.Fill.{Filled}
use Rattle.network.specs.Limits.{most_arcs}
use Rattle.plan.specs.PlanDecode.{decode_plan}
use Rattle.trip.specs.Flagged.{mask_of}
use Rattle.trip.proofs.flagged.fill_mask.Given as goal

abbrev pub invariant-loop-a : goal.invariant-loop-a
invariant-loop-a l =
    (l.a ≤ l.a-end) × (l.a-end ≡ l.l.arcs) × (l.a-end ≤ most_arcs) × (l.a-end ≤ length l.initial.mask)
    × Filled 0 l.a (mask_of (decode_plan l.plan) l.c) l.initial.mask l.mask
