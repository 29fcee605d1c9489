-- `sheet_text::numbers::put_numbers` meets its contract.
use mathlib.Core.Path.{◌≡◌}
use Prim.Native.Nat.{◌+◌, ◌*◌, ◌≤◌}
use lib.ListN.{length, take}
use Rattle.text_numbers.specs.Text.{Stored}
use Rattle.sheet_text.specs.Numbers.{spaced}
use Rattle.sheet_text.proofs.numbers.put_numbers.Given as goal

abbrev pub invariant-loop-n : goal.invariant-loop-n
invariant-loop-n l =
    (l.n-index ≤ length l.numbers) × (length l.out ≡ length l.initial.out) × (l.next ≤ l.at + 11 * l.n-index)
    × Stored l.initial.out l.out l.at l.next (spaced (take l.n-index l.numbers))
