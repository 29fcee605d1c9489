-- `toward_row::lower_falling` meets its contract: before tick x all is lowered, and run j begins there.
use Prim.Native.Nat.{◌≤◌}
use Rattle.theory_travel.specs.Pieces.{line_at}
use Rattle.toward_row.specs.{Cut.Cut, Lower.entries, Lower.lowered}
use Rattle.toward_row.specs.Pieces.{FallingAt}
use Rattle.toward_row.proofs.lower_falling.Given as goal

abbrev pub invariant-loop-j : goal.invariant-loop-j
invariant-loop-j l =
    (l.j ≤ l.fall) × FallingAt l.a l.v l.b l.w l.step l.parts l.x l.j
    × Cut l.first l.a l.x (lowered l.first (line_at l.a l.v l.b l.w) (entries l.hs) l.period l.initial.row)
    l.initial.row l.row l.count
