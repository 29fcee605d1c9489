-- `arc_runs::brief::fill_briefs` meets its contract.
use mathlib.Core.Path.{◌≡◌}
use Prim.Native.Nat.{◌≤◌}
use lib.ListN.{length}
use Rattle.network.specs.Decode.{decode}
use Rattle.arc_runs.specs.Brief.{Briefs}
use Rattle.arc_runs.proofs.brief.fill_briefs.Given as goal

abbrev pub invariant-loop-a : goal.invariant-loop-a
invariant-loop-a l =
    (l.a ≤ l.arcs) × (length l.briefs ≡ length l.initial.briefs) × Briefs (decode l.file) l.l.period l.a
    l.briefs
