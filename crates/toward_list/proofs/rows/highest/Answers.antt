-- `highest` meets its contract: no entry passed is greater, and one is the greatest.
use mathlib.Core.Path.{refl}
use Prim.Native.Nat.{ℕ, ◌+◌}
use native.Mathlib.Omega.{arith}
use Rattle.std.proofs.lemmas.List.Edits.{length-between, get_or-between}
use Rattle.toward_list.specs.Places.{upper_none, upper_more, upper_end}
use Rattle.toward_list.proofs.rows.highest.Goals as goal

pub loop-number-init : goal.loop-number-init
loop-number-init c = upper_none c.requires.small.period_some refl

pub higher-high-requires : goal.higher-high-requires
higher-high-requires c =
    let long = length-between c.args.work.now c.row_place-p.result (c.row_place-p.result + c.args.l.period)
    (omega arith) in
    let within = c.loop-number.invariant.within in (
      omega (
        arith,
        c.loop-number.invariant.met,
        c.requires.u_lt_nodes.2.entry (c.row_place-p.result + c.loop-number.invariant.at)
            (omega (arith, c.row_place-p.ensures.0)) (omega (arith, c.row_place-p.ensures.0)),
      ),
      omega (
        arith,
        get_or-between {X = ℕ},
        c.requires.u_lt_nodes.2.entry (c.row_place-p.result + c.loop-number.number-index)
            (omega (arith, c.row_place-p.ensures.0)) (omega (arith, c.row_place-p.ensures.0)),
      ),
    )

pub loop-number-preserved : goal.loop-number-preserved
loop-number-preserved c =
    let long = length-between c.args.work.now c.row_place-p.result (c.row_place-p.result + c.args.l.period)
    (omega arith) in
    upper_more c.loop-number.invariant (omega arith)
    (get_or-between _ _ (c.row_place-p.result + c.args.l.period) _ _ (omega arith))
    c.higher-high.ensures

pub returns : goal.returns
returns c =
    let long = length-between c.args.work.now c.row_place-p.result (c.row_place-p.result + c.args.l.period)
    (omega arith) in
    upper_end c.loop-number.invariant (omega arith) c.row_place-p.ensures.0
