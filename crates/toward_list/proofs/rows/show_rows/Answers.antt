-- `show_rows` meets its contract: the rows passed are as they read.
use Prim.Native.Nat.{◌+◌, ◌*◌, ◌≤◌, ◌<◌}
use native.Mathlib.Omega.{arith}
use lib.ListN.{length}
use Rattle.toward_list.specs.Places.{row_within}
use Rattle.toward_list.specs.Seen.{shown_none, shown_some, shown_bare, shown_end}
use borrow.Author.Rules.{rules}
use Rattle.toward_list.proofs.rows.show_rows.Goals as goal
use Rattle.toward_list.proofs.rows.show_rows.Goals.{then-bare, else-bare}

pub loop-u-init : goal.loop-u-init
loop-u-init c = (search rules, search rules, shown_none _ _ _ _)

pub loop-u-preserved : goal.loop-u-preserved
loop-u-preserved c =
    let h : c.loop-u.u < c.args.l.nodes = omega arith in
    let fits : c.loop-u.u * c.args.l.period + c.args.l.period ≤ length c.args.work.now =
    omega (arith, row_within c.requires.small h, c.requires.from_le_to.2) in (
      search rules,
      search rules,
      elim c.if-bare.branch [
        | then-bare w ↦
            rw w.work-is (shown_bare _ _ _ _ _ c.loop-u.invariant.2 fits w.if-bare.true w.fill_row.ensures)
        | else-bare w ↦ rw w.work-is (shown_some _ _ _ _ _ c.loop-u.invariant.2 w.if-bare.false)
      ],
    )

pub returns : goal.returns
returns c = shown_end _ _ _ _ _ _ c.loop-u.invariant.2 c.loop-u.invariant.1 c.loop-u-test.false
