use mathlib.Core.Path.{refl, sym, ◌∙◌}
use native.Mathlib.Omega.{arith}
use Rattle.plan_rows.specs.Rows.{points_none, row_low, row_turns, at_place, at_row}
use Rattle.plan_rows.proofs.count.row_points.Goals as goal

pub returns-then-work-p : goal.returns-then-work-p
returns-then-work-p c =
    sym (points_none c.args.l.period c.args.work.now c.args.u
    (at_place _ _ _ _ c.row_place-p.ensures.0 c.if-work-p.true))

pub point_count-requires : goal.point_count-requires
point_count-requires c =
    row_low c.args.l.period c.args.work.now c.args.u _ _ c.row_place-p.ensures.0 refl (omega arith)
    c.requires.u_lt_nodes.2 c.requires.u_lt_nodes.0
    (λ z. c.if-work-p.false (at_row _ _ _ _ c.row_place-p.ensures.0 z))

pub returns : goal.returns
returns c =
    c.point_count.ensures
    ∙ row_turns c.args.l.period c.args.work.now c.args.u _ _ c.row_place-p.ensures.0 refl (omega arith)
    (λ z. c.if-work-p.false (at_row _ _ _ _ c.row_place-p.ensures.0 z))
