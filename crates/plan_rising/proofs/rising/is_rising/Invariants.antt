-- `plan_rising::rising::is_rising` meets its contract: `Holding` holds before each profile.
use Rattle.plan_rising.specs.Rising.{Holding}
use Rattle.plan_rising.proofs.rising.is_rising.Given as goal

abbrev pub invariant-loop-k : goal.invariant-loop-k
invariant-loop-k l =
    Holding l.plan l.l l.k l.from l.some l.counts l.progress
