-- The limits of a plan file. Its blocks and bytes follow from the limits of a network: a plan has a flag word
-- for each arc and a profile for each border and node.
use Rattle.std.specs.Prelude.{◌≡◌, refl, ℕ, ◌+◌, ◌*◌}
use Rattle.file_fields.specs.Block.{block_size}
use Rattle.file_blocks.specs.{Kind.flag_per, Kind.count_per, Kind.profile_point_per, Place.blocks}
use Rattle.network.specs.Limits.{most_nodes, most_arcs}

-- the points of all profiles
abbrev pub most_profile_points : ℕ
most_profile_points = 1048576

abbrev pub most_profiles : ℕ
most_profiles = most_nodes * most_nodes

abbrev pub most_plan_blocks : ℕ
most_plan_blocks =
    1 + blocks flag_per most_arcs + blocks count_per most_profiles + blocks profile_point_per most_profile_points

abbrev pub most_plan_bytes : ℕ
most_plan_bytes = block_size * most_plan_blocks

-- document 01's number
pub most_plan_blocks_lem : most_plan_blocks ≡ 13718
most_plan_blocks_lem = refl
