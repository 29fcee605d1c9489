-- `toward_row::fold_run` meets its contract: the entries passed are lowered, and the one at hand is the old
-- one.
use mathlib.Core.Bool.{false}
use Prim.Native.Nat.{◌≤◌}
use Rattle.toward_row.specs.{Cut.Cut, Lower.shifted}
use Rattle.toward_row.proofs.fold_run.Given as goal

abbrev pub invariant-loop-x : goal.invariant-loop-x
invariant-loop-x l =
    (l.a ≤ l.x) × (l.x ≤ l.b) × Cut false l.a l.x (shifted false l.hs l.from l.a l.more l.initial.row)
    l.initial.row l.row l.count
