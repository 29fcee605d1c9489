-- `toward_row::lower_rising` meets its contract: after the first tick all is lowered before tick x, and the
-- run after run j begins there.
use Prim.Native.Nat.{◌+◌, ◌≤◌}
use Rattle.theory_travel.specs.Pieces.{line_at}
use Rattle.toward_row.specs.{Cut.Cut}
use Rattle.toward_row.specs.Lower.{entries, lowered}
use Rattle.toward_row.specs.Pieces.{RisingAt}
use Rattle.toward_row.proofs.lower_rising.Given as goal

abbrev pub invariant-loop-j : goal.invariant-loop-j
invariant-loop-j l =
    (l.j ≤ l.last) × RisingAt l.a l.v l.b l.w l.step l.parts l.x l.j
    × Cut l.first (l.a + 1) l.x (lowered l.first (line_at l.a l.v l.b l.w) (entries l.hs) l.period
    l.initial.row) l.initial.row l.row l.count
