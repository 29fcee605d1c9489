-- `day_slopes::slopes::falling` meets its contract.
use mathlib.Core.Path.{◌≡◌}
use Prim.Native.Nat.{◌+◌, ◌-◌, ◌*◌, ◌≤◌}
use Rattle.travel_runs.specs.Fixed.{ceiled}
use Rattle.theory_travel.specs.Pieces.{line_at}
use Rattle.day_slopes.specs.{Held.Held}
use Rattle.day_slopes.proofs.slopes.falling.Given as goal

abbrev pub invariant-loop-j : goal.invariant-loop-j
invariant-loop-j l =
    (l.j ≤ l.last) × (l.parts ≡ 4294967295 + l.j * l.step)
    × Held l.initial.starts l.initial.values l.starts l.values l.n (l.n + l.j) l.p.a l.p.v
    (l.p.a + ceiled l.j (l.p.b - l.p.a) (l.p.v - l.p.w)) (l.p.v - l.j)
    (line_at l.p.a l.p.v l.p.b l.p.w)
