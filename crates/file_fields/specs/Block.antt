-- A block: its size, the sizes of its head and of its entries, and what its check is over. src/lib.rt has the
-- same by name.
use Rattle.std.specs.Prelude.{◌≡◌, refl, ℕ, ◌+◌, ◌*◌}

abbrev pub block_size : ℕ
block_size = 512

-- the bytes before the entries
abbrev pub head_size : ℕ
head_size = 8

-- the bytes that entries may take
abbrev pub entries_size : ℕ
entries_size = 500

-- head and entries, which the check is over, and their words of two bytes
abbrev pub summed_size : ℕ
summed_size = 508

abbrev pub summed_words : ℕ
summed_words = 254

-- these agree: head and entries are summed, four bytes of check follow, and two bytes make a word
pub block_parts : (head_size + entries_size ≡ summed_size) × (summed_size + 4 ≡ block_size)
    × (2 * summed_words ≡ summed_size)
block_parts = (refl, refl, refl)
