-- `text_lines::lines::near_end` meets its contract.
use Prim.Native.Nat.{◌≤◌}
use lib.ListN.{length}
use Rattle.text_lines.specs.Lines.{Unended}
use Rattle.text_lines.proofs.lines.near_end.Given as goal

abbrev pub invariant-loop-i : goal.invariant-loop-i
invariant-loop-i l =
    (l.at ≤ l.i) × (l.i ≤ length l.text) × Unended l.text l.at l.i
