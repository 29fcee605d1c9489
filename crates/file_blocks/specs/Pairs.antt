-- Entries that are two fields of 16 bits side by side: such an entry as one number, and the tables of its two
-- fields, filled by it.
use mathlib.Core.{Path.◌≡◌, List.List}
use Rattle.std.specs.Prelude.{ℕ, ◌+◌, ◌*◌, ◌/◌, ◌%◌, ◌≤◌, ◌<◌, length, set}
use Rattle.std.proofs.Common.{add-zero}
use Rattle.theory_loops.specs.Fill.{Filled}
use Rattle.file_fields.specs.Fields.{le16}
use Rattle.file_blocks.specs.Table.{part16, part_none, part_more, part_end}

-- the bytes of such an entry
abbrev pub pair_size : ℕ
pair_size = 4

-- the number of the entry at byte o tells its two fields
pub record PairAt (file : List ℕ) (o x : ℕ) : Type 0 where
  pub low : x % 65536 ≡ le16 file o
  pub high : x / 65536 ≡ le16 file (o + 2)

-- FOR THE LOOP over a block's entries: one more of each table, by one number
module _ (file : List ℕ) (base first m e x : ℕ) (old new : List ℕ) (l : e < m) (k : first + m ≤ length old)
    (p : PairAt file (base + pair_size * e) x) where
  pub lows_more : Filled first (first + e) (part16 file base pair_size 0 first) old new
      → Filled first (first + (e + 1)) (part16 file base pair_size 0 first) old
      (set new (first + e) (x % 65536))
  lows_more h = part_more file base pair_size 0 first m e _ old new h l k (rw add-zero p.low)

  pub highs_more : Filled first (first + e) (part16 file base pair_size 2 first) old new
      → Filled first (first + (e + 1)) (part16 file base pair_size 2 first) old
      (set new (first + e) (x / 65536))
  highs_more h = part_more file base pair_size 2 first m e _ old new h l k p.high

pub ruleset pairs = (part_none, lows_more, highs_more, part_end)
