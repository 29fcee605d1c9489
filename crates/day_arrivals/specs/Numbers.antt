-- Which numbers the refusals of a day sheet have: 1 to 10, 37, 25, 34 or 31 before its work
-- (`begin_numbers`), and 28 after it (`sheet_numbers`).
use mathlib.Core.{Path.◌≡◌, Logic.◌⊎◌}
use Rattle.std.specs.Prelude.{ℕ}
use Rattle.network.specs.{Numbers.NetworkNumber}

-- document 02's numbers for the sheet: before its work, and all
abbrev pub BeginNumber : ℕ → Type 0
BeginNumber n = NetworkNumber n ⊎ ((n ≡ 25) ⊎ ((n ≡ 34) ⊎ (n ≡ 31)))

abbrev pub SheetNumber : ℕ → Type 0
SheetNumber n = BeginNumber n ⊎ (n ≡ 28)
