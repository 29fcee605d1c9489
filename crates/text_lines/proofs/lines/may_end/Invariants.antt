-- `text_lines::lines::may_end` meets its contract.
use mathlib.Core.{Path.◌≡◌, Bool.false}
use Prim.Native.Nat.{◌+◌, ◌≤◌}
use Rattle.text_lines.specs.Lines.{Unended}
use Rattle.text_lines.proofs.lines.may_end.Given as goal

abbrev pub invariant-loop-k : goal.invariant-loop-k
invariant-loop-k l =
    (l.k ≤ 16) × (l.found ≡ false → Unended l.text l.at (l.at + l.k))
