-- `day_slopes::slopes::climb` meets its contract.
use mathlib.Core.Path.{◌≡◌}
use Prim.Native.Nat.{◌+◌, ◌-◌, ◌≤◌}
use Rattle.theory_travel.specs.Pieces.{line_at}
use Rattle.day_slopes.specs.Walk.{climbing}
use Rattle.day_slopes.specs.Held.{Held}
use Rattle.day_slopes.proofs.slopes.climb.Given as goal

abbrev pub invariant-loop-x : goal.invariant-loop-x
invariant-loop-x l =
    (l.p.a ≤ l.x) × (l.x ≤ l.last) × (l.parts ≡ climbing l.start l.step l.p.a l.x)
    × Held l.initial.starts l.initial.values l.starts l.values l.n (l.n + (l.x - l.p.a)) l.p.a l.p.v l.x
    (line_at l.p.a l.p.v l.p.b l.p.w l.x) (line_at l.p.a l.p.v l.p.b l.p.w)
