-- `toward_node::rows::higher` meets its contract.
use mathlib.Core.Path.{sym, ◌∙◌}
use Prim.Native.Nat.{◌≤◌, ◌<◌}
use native.Mathlib.Omega.{arith}
use borrow.Author.{Tests.ltb-true, Tests.ltb-false}
use Rattle.toward_list.proofs.rows.higher.Goals as goal

pub returns-then-is_before : goal.returns-then-is_before
returns-then-is_before c =
    let h : c.args.a < c.args.b = ltb-true _ _ (sym c.is_before.ensures ∙ c.if-is_before.true) in
    omega arith

pub returns-else-is_before : goal.returns-else-is_before
returns-else-is_before c =
    let h : c.args.b ≤ c.args.a = ltb-false _ _ (sym c.is_before.ensures ∙ c.if-is_before.false) in
    omega arith
