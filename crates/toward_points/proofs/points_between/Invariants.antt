use mathlib.Core.Path.{◌≡◌}
use Prim.Native.Nat.{◌+◌, ◌-◌, ◌≤◌}
use lib.ListN.{length, drop}
use Rattle.std.specs.List.{between}
use Rattle.std.specs.Slice.Iter.{windows_rest, windows_size}
use Rattle.toward_points.specs.Row.{points_before}
use Rattle.toward_points.proofs.points_between.Given as goal

abbrev pub invariant-loop-near : goal.invariant-loop-near
invariant-loop-near l =
    let part = between (l.a - 1) (l.b + 1) l.row in
    let left = windows_rest l.near-iterator in
    record {
      size : windows_size l.near-iterator ≡ 3;
      some : 2 ≤ length left;
      most : length left ≤ l.b + 1 - (l.a - 1);
      rest : left ≡ drop (l.b + 1 - (l.a - 1) - length left) part;
      counted : points_before l.row l.a + l.seen ≡ points_before l.row (l.b + 2 - length left);
    }
