-- `plan_values::starts::profile_starts` meets its contract: the running sum is where the next profile starts,
-- and the entries passed are filled.
use Prim.Native.Nat.{◌≤◌}
use mathlib.Core.Path.{◌≡◌}
use Rattle.theory_loops.specs.Fill.{Filled}
use Rattle.plan.specs.PlanDecode.{decode_plan}
use Rattle.plan_values.specs.Starts.{start_of}
use Rattle.plan_values.proofs.starts.profile_starts.Given as goal

abbrev pub invariant-loop-u : goal.invariant-loop-u
invariant-loop-u l =
    (l.u ≤ l.nodes) × (l.sum ≡ start_of (decode_plan l.plan) l.nodes l.i l.u)
    × Filled 0 l.u (start_of (decode_plan l.plan) l.nodes l.i) l.initial.starts l.starts
