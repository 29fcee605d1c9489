-- `day_sheet::sheet::day_sheet` meets its contract.
use mathlib.Core.Path.{refl}
use Rattle.std.proofs.lemmas.Result.{err_from_is_err_and}
use Rattle.day_arrivals.proofs.Sheeting.{sheet_valid, sheet_asks, sheet_refused, sheet_opened}
use Rattle.day_sheet.proofs.sheet.day_sheet.Goals as goal

pub fill_sheet-requires-clause-valid_file : goal.fill_sheet-requires-clause-valid_file
fill_sheet-requires-clause-valid_file c = sheet_valid _ _ _ _ _ _ c.begin_sheet.ensures _ c.in_ok-h.was

pub fill_sheet-requires-clause-asked : goal.fill_sheet-requires-clause-asked
fill_sheet-requires-clause-asked c = sheet_asks _ _ _ _ _ _ c.begin_sheet.ensures _ c.in_ok-h.was

pub returns-in_err-h : goal.returns-in_err-h
returns-in_err-h c =
    let p = err_from_is_err_and c.from_residual.result c.from_residual.ensures.1 in
    rw (p.1, p.2) (sheet_refused _ _ _ _ _ _ c.begin_sheet.ensures c.in_err-h.was refl)

pub returns : goal.returns
returns c = sheet_opened _ _ _ _ _ _ c.begin_sheet.ensures c.in_ok-h.was c.fill_sheet.ensures
