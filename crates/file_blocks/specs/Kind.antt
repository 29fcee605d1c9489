-- The table of kinds: for each its number in a block's first byte, the bytes of an entry, and the entries of
-- a full block.
use Rattle.std.specs.Prelude.{◌≡◌, refl, ℕ, ◌/◌}
use Rattle.file_fields.specs.Block.{entries_size}

-- the header of a network
abbrev pub network_kind : ℕ
network_kind = 1

abbrev pub network_size : ℕ
network_size = 17

-- the cell of a node
abbrev pub cell_kind : ℕ
cell_kind = 2

abbrev pub cell_size : ℕ
cell_size = 2

abbrev pub cell_per : ℕ
cell_per = 250

-- an arc's tail, head and count of points
abbrev pub arc_kind : ℕ
arc_kind = 3

abbrev pub arc_size : ℕ
arc_size = 6

abbrev pub arc_per : ℕ
arc_per = 83

-- a point's tick and travel
abbrev pub point_kind : ℕ
point_kind = 4

abbrev pub point_size : ℕ
point_size = 4

abbrev pub point_per : ℕ
point_per = 125

-- the header of a plan
abbrev pub plan_kind : ℕ
plan_kind = 5

abbrev pub plan_size : ℕ
plan_size = 20

-- the flag word of an arc
abbrev pub flag_kind : ℕ
flag_kind = 6

abbrev pub flag_size : ℕ
flag_size = 8

abbrev pub flag_per : ℕ
flag_per = 62

-- a profile's count of points
abbrev pub count_kind : ℕ
count_kind = 7

abbrev pub count_size : ℕ
count_size = 2

abbrev pub count_per : ℕ
count_per = 250

-- a profile's point: tick and travel
abbrev pub profile_point_kind : ℕ
profile_point_kind = 8

abbrev pub profile_point_size : ℕ
profile_point_size = 6

abbrev pub profile_point_per : ℕ
profile_point_per = 83

-- a node's cell, and the ticks at which it opens and closes
abbrev pub hours_kind : ℕ
hours_kind = 9

abbrev pub hours_size : ℕ
hours_size = 6

abbrev pub hours_per : ℕ
hours_per = 83

-- a full block has as many entries as fit
pub full_blocks : (cell_per ≡ entries_size / cell_size) × (arc_per ≡ entries_size / arc_size)
    × (point_per ≡ entries_size / point_size) × (flag_per ≡ entries_size / flag_size)
    × (count_per ≡ entries_size / count_size) × (profile_point_per ≡ entries_size / profile_point_size)
    × (hours_per ≡ entries_size / hours_size)
full_blocks = (refl, refl, refl, refl, refl, refl, refl)
