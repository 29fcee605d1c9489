-- Numbers in rows of one width, one row behind the other in one list: the number in row i at column j.
use Rattle.std.specs.Prelude.{List, ℕ, ◌+◌, ◌*◌, ◌<◌, get_or}
use native.Mathlib.{Nat.mul-le-mul_right, Omega.arith}

unfoldable pub grid_at : ℕ → List ℕ → ℕ → ℕ → ℕ
grid_at wide list i j = get_or list (i * wide + j) 0

-- the place of a column in a row lies within the rows
pub grid_in : (wide n i j : ℕ) → i < n → j < wide → i * wide + j < n * wide
grid_in wide n i j l m = omega (arith, mul-le-mul_right wide l)
