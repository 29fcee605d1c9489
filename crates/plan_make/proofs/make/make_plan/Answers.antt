-- `plan_make::make::make_plan` meets its contract.
use mathlib.Core.Path.{refl}
use Rattle.std.proofs.lemmas.Result.{err_from_is_err_and}
use Rattle.plan_make.specs.Making.{made_refused, made_opened, opened_valid}
use borrow.Author.Rules.{rules}
use Rattle.plan_make.proofs.make.make_plan.Goals as goal

pub make_opened-requires : goal.make_opened-requires
make_opened-requires c = (opened_valid c.validate.ensures c.in_ok-h.was, search rules)

pub returns-in_err-h : goal.returns-in_err-h
returns-in_err-h c =
    let p = err_from_is_err_and c.from_residual.result c.from_residual.ensures.1 in
    rw (p.1, p.2) (made_refused c.validate.ensures c.in_err-h.was refl)

pub returns : goal.returns
returns c = made_opened c.validate.ensures c.in_ok-h.was c.make_opened.ensures
