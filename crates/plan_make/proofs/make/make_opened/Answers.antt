-- `plan_make::make::make_opened` meets its contract.
use mathlib.Core.Path.{refl}
use native.Mathlib.{Nat.mul-le-mul, Omega.arith}
use lib.ListN.{length-take}
use Rattle.toward_list.specs.Work.{valid_town, size_is}
use Rattle.plan_make.specs.Making.{work_short, work_long}
use Rattle.plan_make.proofs.make.make_opened.Goals as goal

pub overflow_mul-size : goal.overflow_mul-size
overflow_mul-size c =
    let small = (valid_town c.requires.0 c.layout-l.ensures).small in
    omega (arith, mul-le-mul small.nodes_most small.period_most)

pub returns-then-work-size : goal.returns-then-work-size
returns-then-work-size c =
    work_short (size_is c.requires.0 c.layout-l.ensures) c.if-work-size.true
    c.refused.ensures

pub slice_bounds-make_listed-end-2 : goal.slice_bounds-make_listed-end-2
slice_bounds-make_listed-end-2 c = simp length-take (omega arith)

pub make_listed-answer-requires-clause-valid_file : goal.make_listed-answer-requires-clause-valid_file
make_listed-answer-requires-clause-valid_file c = (c.requires.0, c.requires.1, c.layout-l.ensures)

pub make_listed-answer-requires-clause-work_len : goal.make_listed-answer-requires-clause-work_len
make_listed-answer-requires-clause-work_len c = simp length-take (omega
    arith)

pub returns : goal.returns
returns c =
    work_long (size_is c.requires.0 c.layout-l.ensures) {work = c.args.work.now} c.make_listed-answer.new.work
    c.if-work-size.false
    (omega (arith, c.work-1.given)) refl c.zero.ensures c.make_listed-answer.ensures
