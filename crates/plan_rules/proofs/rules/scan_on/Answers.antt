-- `plan_rules::rules::scan_on` meets its contract: a scan that has found a point, or whose next points are
-- not in the file, stays as it is.
use Rattle.std.proofs.lemmas.Result.{err_from_is_err_and}
use Rattle.std.proofs.Common.{arith}
use Rattle.plan_rules.specs.PlanScanAll.{on_found, on_outside, on_scanned}
use Rattle.plan_rules.proofs.rules.scan_on.Goals as goal

pub returns-in_err-at : goal.returns-in_err-at
returns-in_err-at c =
    let p = err_from_is_err_and c.from_residual.result c.from_residual.ensures.1 in
    rw (c.in_err-at.was, p.1, p.2) (on_found _ _ _ _ _)

pub returns-then-l-from : goal.returns-then-l-from
returns-then-l-from c = rw c.in_ok-at.was (on_outside _ _ _ _ _ c.if-l-from.true)

pub find_bad-requires-clause-at_value : goal.find_bad-requires-clause-at_value
find_bad-requires-clause-at_value c = c.requires.standing _ c.in_ok-at.was (omega arith)

pub returns : goal.returns
returns c = rw c.in_ok-at.was (on_scanned _ _ _ _ _ _ c.find_bad.ensures)
