-- `day_sheet::begin::ask_sheet` meets its contract.
use Prim.Native.Nat.{◌≤◌}
use native.Mathlib.{Nat.mul-le-mul, Omega.arith}
use Rattle.theory_loops.specs.Pick.{picks}
use Rattle.day_arrivals.specs.Sheet.{sheet_asked}
use Rattle.day_sheet.proofs.begin.ask_sheet.Goals as goal

pub returns-then-h-from : goal.returns-then-h-from
unfolding sheet_asked
returns-then-h-from c = search picks depth 8

pub returns-then-h-to : goal.returns-then-h-to
unfolding sheet_asked
returns-then-h-to c = search picks depth 8

pub overflow_mul-h : goal.overflow_mul-h
overflow_mul-h c =
    let a : c.args.h.nodes ≤ 65535 = omega arith in
    let b : c.args.h.period ≤ 65535 = omega arith in
    omega (arith, mul-le-mul a b)

pub returns-then-work-h : goal.returns-then-work-h
unfolding sheet_asked
returns-then-work-h c = search picks depth 8

pub returns-then-list-h : goal.returns-then-list-h
unfolding sheet_asked
returns-then-list-h c = search picks depth 8

pub returns : goal.returns
unfolding sheet_asked
returns c = search picks depth 8
