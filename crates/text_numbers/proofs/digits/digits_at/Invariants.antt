-- `text_numbers::digits::digits_at` meets its contract.
use Rattle.std.proofs.Common.{◌≡◌, ◌+◌, ◌≤◌}
use Rattle.text_numbers.specs.Digits.{DigitsAt}
use Rattle.text_numbers.proofs.digits.digits_at.Given as goal

abbrev pub invariant-loop-byte : goal.invariant-loop-byte
invariant-loop-byte l =
    (l.number.end ≡ l.at + l.byte-index) × (l.byte-index ≤ 9)
    × DigitsAt l.text l.at l.number.end l.number.value
