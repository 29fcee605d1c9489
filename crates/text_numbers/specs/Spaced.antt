-- Numbers in a line, one space apart: each some digits, of a value of 32 bits. How many digits one may have
-- is for its reader to say: up to nine, leading zeros counted, or ten, which stands for any number of them.
use mathlib.Core.{Path.◌≡◌, Bool.true, List.List, List.[], List.◌∷◌, List.◌++◌}
use Rattle.std.specs.Prelude.{ℕ, ◌^◌, ◌<◌, ◌≤◌, min, length}
use Rattle.text_numbers.specs.Number.{are_digits, value_of, decimal, decimal_some, decimal_digits}
use Rattle.text_numbers.specs.Number.{value_decimal}

-- the greatest number that a line may hold
abbrev pub limit : ℕ
limit = 4294967295

-- a number in decimal: some bytes, all of them digits, of this value
pub record Decimal (w : List ℕ) (v : ℕ) : Type 0 where
  pub some : 0 < length w
  pub digits : are_digits w ≡ true
  pub value : value_of w ≡ v

-- so is what is printed of a number
pub printed_number : (n : ℕ) → n < 2 ^ 32 → Decimal (decimal n) n
printed_number n l = record { some = decimal_some n; digits = decimal_digits n; value = value_decimal n l }

-- how many digits there are, counted up to ten
abbrev pub counted : List ℕ → ℕ
counted w = min (length w) 10

-- a number as a reader takes it that allows so many digits
pub record Numeral (most : ℕ) (w : List ℕ) (v : ℕ) : Type 0 where
  pub number : Decimal w v
  pub few : counted w ≤ most
  pub small : v ≤ limit

-- a line of such numbers: one, or one, a space and further ones
pub data Spaced (most : ℕ) : List ℕ → List ℕ → Type 0 where
  one : (w : List ℕ) (v : ℕ) → Numeral most w v → Spaced most w (v ∷ [])
  more : (w : List ℕ) (v : ℕ) (line values : List ℕ) → Numeral most w v → Spaced most line values
      → Spaced most (w ++ (32 ∷ line)) (v ∷ values)
