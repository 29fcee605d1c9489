-- `day_sheet::begin::begin_sheet` meets its contract.
use Rattle.std.proofs.lemmas.Result.{err_from_is_err_and}
use Rattle.trip_call.specs.Trip.{then_refused, then_opened}
use Rattle.day_sheet.proofs.begin.begin_sheet.Goals as goal

pub returns-in_err-h : goal.returns-in_err-h
returns-in_err-h c =
    let p = err_from_is_err_and c.from_residual.result c.from_residual.ensures.1 in
    rw (p.1, p.2) (then_refused _ _ _ _ c.validate.ensures c.in_err-h.was)

pub returns : goal.returns
returns c = then_opened _ _ _ _ _ c.validate.ensures c.in_ok-h.was c.ask_sheet.ensures
