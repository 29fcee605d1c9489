use mathlib.Core.{Path.refl, Logic.◌≢◌}
use native.Mathlib.Omega.{arith}
use Rattle.theory_loops.specs.Grid.{grid_at}
use Rattle.theory_paths.specs.Earliest.{never}
use Rattle.plan_rows.specs.Rows.{at_place, at_row, points_few, row_low, row_turns, row_next, row_put}
use Rattle.plan_rows.specs.Rows.{row_never}
use Rattle.plan_rows.proofs.rows.put_row.Goals as goal

pub returns-then-work-p : goal.returns-then-work-p
returns-then-work-p c =
    row_never
    (at_place c.args.l.period c.args.work.now c.args.u _
    c.row_place-p.ensures.0
    c.if-work-p.true)
    c.requires.c_lt_profiles.0 (omega arith) c.put_count.ensures

pub put_points-next-requires-clause-low : goal.put_points-next-requires-clause-low
put_points-next-requires-clause-low c = let ne : grid_at c.args.l.period c.args.work.now c.args.u 0 ≢ never =
    λ z. c.if-work-p.false (at_row c.args.l.period c.args.work.now c.args.u _ c.row_place-p.ensures.0 z) in (
      row_low c.args.l.period c.args.work.now c.args.u _ _ c.row_place-p.ensures.0 refl (omega arith)
          c.requires.u_lt_nodes.2
          c.requires.u_lt_nodes.0 ne,
      c.requires.small.1,
    )

pub put_points-next-requires-clause-row_bound : goal.put_points-next-requires-clause-row_bound
put_points-next-requires-clause-row_bound c =
    let ne : grid_at c.args.l.period c.args.work.now c.args.u 0 ≢ never =
    λ z. c.if-work-p.false (at_row c.args.l.period c.args.work.now c.args.u _ c.row_place-p.ensures.0
    z) in omega (
      arith,
      row_turns c.args.l.period c.args.work.now c.args.u _ _ c.row_place-p.ensures.0 refl (omega arith) ne,
      c.requires.c_lt_profiles.1,
    )

pub overflow_sub-next : goal.overflow_sub-next
overflow_sub-next c =
    let ne : grid_at c.args.l.period c.args.work.now c.args.u 0 ≢ never =
    λ z. c.if-work-p.false
    (at_row c.args.l.period c.args.work.now c.args.u _ c.row_place-p.ensures.0 z) in
    omega (
      arith,
      row_next c.args.l.period c.args.work.now c.args.u _ _ c.row_place-p.ensures.0 refl (omega arith)
          c.args.k c.args.q ne
          c.put_points-next.ensures,
    )

pub overflow_cast-next : goal.overflow_cast-next
overflow_cast-next c =
    let ne : grid_at c.args.l.period c.args.work.now c.args.u 0 ≢ never =
    λ z. c.if-work-p.false
    (at_row c.args.l.period c.args.work.now c.args.u _ c.row_place-p.ensures.0 z) in
    omega (
      arith,
      row_next c.args.l.period c.args.work.now c.args.u _ _ c.row_place-p.ensures.0 refl (omega arith)
          c.args.k c.args.q ne
          c.put_points-next.ensures,
      points_few c.args.l.period c.args.work.now c.args.u,
      c.requires.u_lt_nodes.2.few,
    )

pub returns : goal.returns
returns c =
    let ne : grid_at c.args.l.period c.args.work.now c.args.u 0 ≢ never =
    λ z. c.if-work-p.false
    (at_row c.args.l.period c.args.work.now c.args.u _ c.row_place-p.ensures.0 z) in
    row_put c.args.l.period c.args.work.now c.args.u _ _ c.row_place-p.ensures.0 refl (omega arith) c.args.k
    c.args.q ne
    c.put_points-next.ensures c.requires.c_lt_profiles.0 refl (omega
    arith)
    c.put_count-2.ensures
