-- `nearness` meets its contract: no entry passed is less.
use Prim.Native.Nat.{ℕ, ◌+◌}
use native.Mathlib.Omega.{arith}
use Rattle.std.proofs.lemmas.List.Edits.{length-between, get_or-between}
use Rattle.toward_list.specs.Places.{lower_none, lower_more, lower_near}
use Rattle.toward_list.proofs.rows.nearness.Goals as goal

pub loop-number-init : goal.loop-number-init
loop-number-init c = (
  lower_none _,
  c.requires.u_lt_nodes.2.entry c.row_place-p.result (omega (arith, c.row_place-p.ensures.0))
      (omega (arith, c.row_place-p.ensures.0, c.requires.small.period_some)),
)

pub lower-low-requires : goal.lower-low-requires
lower-low-requires c =
    let long = length-between c.args.work.now c.row_place-p.result (c.row_place-p.result + c.args.l.period)
    (omega arith) in (
      c.loop-number.invariant.1,
      omega (
        arith,
        get_or-between {X = ℕ},
        c.requires.u_lt_nodes.2.entry (c.row_place-p.result + c.loop-number.number-index)
            (omega (arith, c.row_place-p.ensures.0)) (omega (arith, c.row_place-p.ensures.0)),
      ),
    )

pub loop-number-preserved : goal.loop-number-preserved
loop-number-preserved c =
    let long = length-between c.args.work.now c.row_place-p.result (c.row_place-p.result + c.args.l.period)
    (omega arith) in (
      lower_more c.loop-number.invariant.0
          (get_or-between _ _ (c.row_place-p.result + c.args.l.period) _ _ (omega arith))
          c.lower-low.ensures,
      omega arith,
    )

pub returns : goal.returns
returns c =
    let long = length-between c.args.work.now c.row_place-p.result (c.row_place-p.result + c.args.l.period)
    (omega arith) in
    lower_near c.loop-number.invariant.0 (omega arith) c.row_place-p.ensures.0 (omega arith)
