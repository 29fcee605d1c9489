-- `day_sheet::sheet::list_day` meets its contract.
use mathlib.Core.Path.{refl}
use native.Mathlib.Omega.{arith}
use Rattle.day_arrivals.proofs.Sheeting.{row_none, row_early, row_listed}
use Rattle.day_sheet.proofs.sheet.list_day.Goals as goal

pub returns-then-never : goal.returns-then-never
returns-then-never c =
    row_none c.requires.town c.requires.from_lt_nodes.0 c.travels_to.ensures c.row_place-p.ensures.0
    c.if-never.true c.refused.ensures

pub put_arrivals-requires : goal.put_arrivals-requires
put_arrivals-requires c = (
  row_early c.requires.town c.requires.from_lt_nodes.0 c.travels_to.ensures c.row_place-p.ensures.0 c.if-never.false
      (omega (arith, c.row_place-p.ensures.1, c.requires.from_lt_nodes.2)),
  c.requires.from_lt_nodes.3,
)

pub returns : goal.returns
returns c =
    row_listed c.requires.town c.requires.from_lt_nodes.0 c.travels_to.ensures c.row_place-p.ensures.0
    c.if-never.false c.requires.from_lt_nodes.3 c.put_arrivals.ensures refl
