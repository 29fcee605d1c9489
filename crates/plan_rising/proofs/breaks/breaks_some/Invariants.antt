-- `plan_rising::breaks::breaks_some` meets its contract: the breaks of the first e points are counted.
use Rattle.std.proofs.Common.{◌≡◌, ◌≤◌}
use Rattle.theory_loops.specs.Count.{count}
use Rattle.plan_rising.specs.Breaks.{break_at}
use Rattle.plan_rising.proofs.breaks.breaks_some.Given as goal

abbrev pub invariant-loop-e : goal.invariant-loop-e
invariant-loop-e l = (l.e ≤ l.m) × (l.breaks ≡ count l.e (break_at l.plan l.base))
