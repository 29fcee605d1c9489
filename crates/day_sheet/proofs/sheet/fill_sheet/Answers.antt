-- `day_sheet::sheet::fill_sheet` meets its contract.
use mathlib.Core.Path.{refl}
use native.Mathlib.{Nat.mul-le-mul, Omega.arith}
use lib.ListN.{length-take}
use Rattle.toward_list.specs.Work.{valid_town}
use Rattle.day_arrivals.proofs.Sheeting.{asked_laid, sheet_filled}
use Rattle.day_sheet.proofs.sheet.fill_sheet.Goals as goal

pub overflow_mul-size : goal.overflow_mul-size
overflow_mul-size c =
    let small = (valid_town c.requires.valid_file c.layout-l.ensures).small in
    omega (arith, mul-le-mul small.nodes_most small.period_most)

pub slice_bounds-list_day-end : goal.slice_bounds-list_day-end
slice_bounds-list_day-end c =
    (asked_laid c.requires.asked c.layout-l.ensures).2

pub slice_bounds-list_day-end-2 : goal.slice_bounds-list_day-end-2
slice_bounds-list_day-end-2 c =
    simp length-take (omega (arith, (asked_laid c.requires.asked c.layout-l.ensures).2))

pub list_day-answer-requires-clause-town : goal.list_day-answer-requires-clause-town
list_day-answer-requires-clause-town c = let q = asked_laid c.requires.asked c.layout-l.ensures in
    valid_town c.requires.valid_file c.layout-l.ensures

pub list_day-answer-requires-clause-from_lt_nodes : goal.list_day-answer-requires-clause-from_lt_nodes
list_day-answer-requires-clause-from_lt_nodes c = let q = asked_laid c.requires.asked c.layout-l.ensures in
    (q.0, q.1, simp length-take (omega (arith, q.2)), q.3)

pub zero-requires : goal.zero-requires
zero-requires c =
    let room = (asked_laid c.requires.asked c.layout-l.ensures).2 in
    omega (arith, room)

pub returns : goal.returns
returns c =
    sheet_filled c.list_day-answer.new.work c.requires.valid_file c.layout-l.ensures (asked_laid c.requires.asked c.layout-l.ensures).2
    (omega (arith, c.work-1.given)) refl c.zero.ensures c.list_day-answer.ensures
