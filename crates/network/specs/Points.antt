-- Where the points of a stretch stand: side by side, from its first one on to the end of that one's block.
-- The code steps from one to the next, and to the next block's first, without a division.
use mathlib.Core.{Path.◌≡◌, List.List}
use Rattle.std.specs.Prelude.{ℕ, ◌+◌, ◌-◌, ◌*◌, ◌%◌, ◌≤◌, ◌<◌, length}
use native.Mathlib.{Nat.add-zero, Omega.arith}
use Rattle.file_fields.specs.{Block.block_size, Fields.le16}
use Rattle.file_blocks.specs.{Kind.point_size, Kind.point_per, Place.offset}
use Rattle.network.specs.declared.header.Layout.{Layout}
use Rattle.network.specs.declared.points.Stretch.{Stretch}
use Rattle.network.specs.Network.{tick, travel}
use Rattle.network.specs.Decode.{decode, Laid, point_in, tick_is, travel_is}

-- the byte at which point q starts
abbrev byte_of : Layout → ℕ → ℕ
byte_of l = offset l.pointblock point_per point_size

pub record Placed (l : Layout) (s : Stretch) : Type 0 where
  pub at : s.at ≡ byte_of l s.first
  pub room : s.room ≡ point_per - s.first % point_per

module _ {file : List ℕ} {l : Layout} (d : Laid file l) {s : Stretch} (h : Placed l s) where
  -- its points stand side by side
  module _ (i : ℕ) (m : i < s.room) (k : s.first + i < l.points) where
    side : s.at + point_size * i ≡ byte_of l (s.first + i)
    unfolding offset
    side = omega (arith, h)

    pub side_in : s.at + point_size * i + point_size ≤ length file
    side_in = omega (arith, side, (point_in d k).room)

    pub side_tick : (r : ℕ) → r ≡ le16 file (s.at + point_size * i) → r ≡ tick (decode file) (s.first + i)
    side_tick r e = tick_is d k (rw (add-zero, ← side) e)

    pub side_travel : (r : ℕ) → r ≡ le16 file (s.at + point_size * i + 2)
        → r ≡ travel (decode file) (s.first + i)
    side_travel r e = travel_is d k (rw (← side) e)

    pub side_on : Placed l (record
        { first = s.first + i; at = s.at + point_size * i; room = s.room - i })
    side_on = record { at = side; room = omega (arith, h) }

  -- and the next block's first some bytes behind them
  module _ (k : s.first + s.room < l.points) where
    behind : s.at + point_size * s.room + (block_size - point_size * point_per)
        ≡ byte_of l (s.first + s.room)
    unfolding offset
    behind = omega (arith, h)

    pub behind_in : s.at + point_size * s.room + (block_size - point_size * point_per) ≤ length file
    behind_in = omega (arith, behind, (point_in d k).room)

    pub behind_on : Placed l (record {
      first = s.first + s.room;
      at = s.at + point_size * s.room + (block_size - point_size * point_per);
      room = point_per;
    })
    behind_on = record { at = behind; room = omega (arith, h) }

-- for `search (sides, needs)` where code reads the points of a stretch, or goes on from it
pub ruleset sides = (side_in, side_tick, side_travel, side_on, behind_in, behind_on)
