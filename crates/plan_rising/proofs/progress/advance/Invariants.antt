-- `plan_rising::progress::advance` meets its contract: `Walked` holds before each block.
use Rattle.std.proofs.Common.{◌≡◌, ◌≤◌}
use Rattle.plan_rising.specs.Progress.{Walked}
use Rattle.plan_rising.proofs.progress.advance.Given as goal

abbrev pub invariant-loop-j : goal.invariant-loop-j
invariant-loop-j l = Walked l.plan l.l l.next × (l.next.done ≡ l.j) × (l.j ≤ l.until)
