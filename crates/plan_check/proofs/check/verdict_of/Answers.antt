-- `plan_check::check::verdict_of` meets its contract.
use native.Mathlib.Omega.{arith}
use Rattle.plan_check.specs.Verdict.{verdict_refused, verdict_accepted}
use Rattle.plan_check.proofs.check.verdict_of.Goals as goal

pub overflow_cast-result : goal.overflow_cast-result
overflow_cast-result c = omega (arith, (c.requires c.if-found-lt-NONE.true).0)

pub overflow_cast-result-then-found-lt-NONE : goal.overflow_cast-result-then-found-lt-NONE
overflow_cast-result-then-found-lt-NONE c = omega (arith, (c.requires c.if-found-lt-NONE.true).1)

pub overflow_cast-result-then-found-lt-NONE-2 : goal.overflow_cast-result-then-found-lt-NONE-2
overflow_cast-result-then-found-lt-NONE-2 c = omega (
  arith,
  (c.requires c.if-found-lt-NONE.true).2,
)

pub returns-then-found-lt-NONE : goal.returns-then-found-lt-NONE
returns-then-found-lt-NONE c = verdict_refused _ c.if-found-lt-NONE.true

pub returns : goal.returns
returns c = verdict_accepted _ c.if-found-lt-NONE.false
