use mathlib.Core.Path.{◌≡◌, ◌∙◌}
use Prim.Native.Nat.{ℕ, ◌+◌, ◌-◌, ◌≤◌, ◌<◌}
use native.Mathlib.Omega.{arith}
use lib.ListN.{length, drop}
use Rattle.std.specs.List.{between}
use Rattle.std.specs.Slice.Iter.{windows_rest}
use Rattle.std.proofs.lemmas.Iterator.{window_more}
use Rattle.std.proofs.lemmas.List.Edits.{length-between, get_or-between}
use Rattle.toward_points.specs.Row.{entry_of, differ_few, turned_more, turned_few}
use Rattle.toward_points.proofs.points_between.Goals as goal

pub overflow_add-seen : goal.overflow_add-seen
overflow_add-seen c =
    omega (
      arith,
      differ_few _ _ _ c.turn-seen.ensures,
      turned_few _ _ _ _ c.loop-near.invariant.counted,
      c.requires.low.few,
    )

pub loop-near-preserved : goal.loop-near-preserved
loop-near-preserved c =
    let row = c.args.row.now in
    let part = between (c.args.a - 1) (c.args.b + 1) row in
    let rest = windows_rest c.loop-near.near-iterator in
    let long = length-between row (c.args.a - 1) (c.args.b + 1) (omega arith) in
    let kept : rest ≡ drop (length part - length rest) part = rw long c.loop-near.invariant.rest in
    let more = window_more part _ _ _ _ c.in-Some.is c.next.ensures.steps (omega arith) (omega arith) kept in
    let three : 3 ≤ length rest = omega (arith, more.2) in
    let x : ℕ = c.args.b + 2 - length rest in
    let at = λ (k : ℕ) (h : k < 3). more.3 k 0 (omega arith)
    ∙ get_or-between row (c.args.a - 1) (c.args.b + 1) (length part - length rest + k) 0 (omega arith) in
    let before : c.args.a - 1 + (length part - length rest + 0) ≡ x - 1 = omega arith in
    let here : c.args.a - 1 + (length part - length rest + 1) ≡ x = omega arith in
    let after : c.args.a - 1 + (length part - length rest + 2) ≡ x + 1 = omega arith in
    let turned = rw (at 0 (omega arith), at 1 (omega arith), at 2 (omega arith), before, here, after)
    at c.turn-seen.ensures in
    let next : c.args.b + 2 - length (windows_rest c.next.new.self) ≡ x + 1 = omega (arith, more.0) in
    record {
      size = c.next.ensures.steps.0 ∙ c.loop-near.invariant.size;
      some = omega (arith, more.0);
      most = omega (arith, more.0);
      rest = rw long at more.1;
      counted = rw next (turned_more (entry_of row) (length row) _ _ x _ (omega arith) (omega arith)
          c.loop-near.invariant.counted turned);
    }
