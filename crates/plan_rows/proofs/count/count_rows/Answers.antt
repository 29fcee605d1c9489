use Prim.Native.Nat.{◌≤◌}
use native.Mathlib.{Omega.arith, Nat.mul-le-mul}
use Rattle.theory_loops.specs.Total.{totals}
use Rattle.network.specs.Limits.{most_nodes}
use Rattle.plan_rows.specs.Rows.{points_few, rows_few}
use borrow.Author.Rules.{rules}
use Rattle.plan_rows.proofs.count.count_rows.Goals as goal

pub loop-u-init : goal.loop-u-init
loop-u-init c = (search rules, search totals)

pub overflow_add-seen : goal.overflow_add-seen
overflow_add-seen c =
    let u : c.loop-u.u ≤ most_nodes = omega (arith, c.requires.small.nodes_most) in
    omega (
      arith,
      c.loop-u.invariant.1,
      rows_few c.args.l.period c.args.work.now c.loop-u.u,
      points_few c.args.l.period c.args.work.now c.loop-u.u,
      c.row_points-seen.ensures,
      mul-le-mul u c.requires.small.period_most,
    )

pub loop-u-preserved : goal.loop-u-preserved
loop-u-preserved c = (search rules, search totals)

pub returns : goal.returns
returns c = search totals
