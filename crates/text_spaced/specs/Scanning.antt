-- Numbers one space apart, read a byte at a time: what the bytes so far come to, by a state that holds up to
-- three numbers, and whether a line that has ended is so many of them.
use mathlib.Core.{Bool.Bool, Bool.cond, List.List}
use Rattle.std.specs.Prelude.{Option, Some, None, ◌&&◌, ℕ, ◌+◌, ◌-◌, ◌*◌, min, eqb, ltb}
use Rattle.text_spaced.specs.declared.spaced.Scan.{Scan}
use Rattle.text_spaced.specs.Fold.{folded}
use Rattle.text_numbers.specs.Spaced.{limit}

-- not ruled out: so many numbers have ended, these two, and the next has so many digits and this value
abbrev pub reading : ℕ → ℕ → ℕ → ℕ → ℕ → Option Scan
reading fields digits value first second =
    Some (record { fields = fields; digits = digits; value = value; first = first; second = second })

-- before a line's first byte
abbrev pub fresh : Option Scan
fresh = reading 0 0 0 0 0

-- no such numbers any more
abbrev pub ruled_out : Option Scan
ruled_out = None

-- one digit more, counted up to ten
abbrev pub one_more : ℕ → ℕ
one_more digits = min (digits + 1) 10

-- a space ends the first or the second number
unfoldable pub space_scanned : Scan → Option Scan
space_scanned s =
    cond (eqb s.digits 0) ruled_out
    (cond (eqb s.fields 0) (reading 1 0 0 s.value 0)
    (cond (eqb s.fields 1) (reading 2 0 0 s.first s.value) ruled_out))

-- a digit goes on with the number; any other byte rules numbers out, and so do a digit too many and a number
-- above the limit
unfoldable pub digit_scanned : ℕ → Scan → ℕ → Option Scan
digit_scanned most s b =
    cond (ltb b 48) ruled_out
    (cond (ltb 57 b) ruled_out
    (cond (ltb most (one_more s.digits)) ruled_out
    (cond (ltb limit (10 * s.value + (b - 48))) ruled_out
    (reading s.fields (one_more s.digits) (10 * s.value + (b - 48)) s.first s.second))))

-- one more byte
unfoldable pub scanned : ℕ → Option Scan → ℕ → Option Scan
scanned most None b = None
scanned most (Some s) b = cond (eqb b 32) (space_scanned s) (digit_scanned most s b)

-- the bytes of a line
abbrev pub scanned_all : ℕ → Option Scan → List ℕ → Option Scan
scanned_all most s w = folded (scanned most) s w

-- is a line that has ended so many numbers?
unfoldable pub whole : Scan → ℕ → Bool
whole s count = eqb (s.fields + 1) count && ltb 0 s.digits
