-- `plan_rising::breaks::break_at` meets its contract.
use Rattle.plan_rising.specs.Breaks.{falls_at}
use Rattle.std.proofs.Common.{rules}
use Rattle.plan_rising.proofs.breaks.break_at.Goals as goal

pub returns : goal.returns
unfolding falls_at
returns c = (
  rw (c.le16.ensures, c.le16-2.ensures) at c.is_break.ensures.0,
  search rules,
)
