-- The points of a network file, walked over in their order: what the walk rests on before point q, and that
-- what code reads there is the network's.
use mathlib.Core.{Path.◌≡◌, List.List}
use Rattle.std.specs.Prelude.{ℕ, ◌+◌, ◌*◌, ◌/◌, ◌^◌, ◌≤◌, ◌<◌}
use lib.{ListN.length, Dec.lit≤}
use Rattle.file_fields.specs.{Block.block_size, Block.entries_size, Fields.le16}
use Rattle.file_blocks.specs.Kind.{point_per, point_size}
use Rattle.file_blocks.specs.declared.walk.Walk.{Walk}
use Rattle.file_blocks.specs.Walk.{walk_at, stepped, walk_there, walk_entry, walk_may, walk_on}
use Rattle.network.specs.declared.header.Layout.{Layout}
use Rattle.network.specs.Network.{tick, travel}
use Rattle.network.specs.Decode.{Laid, decode, point_in, tick_is, travel_is}

abbrev pub point_at : ℕ → ℕ → Walk
point_at block q = walk_at block point_per point_size q

module _ {file : List ℕ} {l : Layout} (s : Laid file l) {q : ℕ} (h : q < l.points) where
  pub point_near : l.pointblock + q / point_per < 2 ^ 54
  point_near = (point_in s h).near

  module _ {c : Walk} (e : c ≡ point_at l.pointblock q) where
    pub tick_there : c.at + 0 + 2 ≤ length file
    tick_there = walk_there (point_in s h) e 0 2 (lit≤ tt)

    pub travel_there : c.at + 2 + 2 ≤ length file
    travel_there = walk_there (point_in s h) e 2 2 (lit≤ tt)

    pub tick_read : {r : ℕ} → r ≡ le16 file (c.at + 0) → r ≡ tick (decode file) q
    tick_read f = tick_is s h (walk_entry (point_in s h) e le16 0 f)

    pub travel_read : {r : ℕ} → r ≡ le16 file (c.at + 2) → r ≡ travel (decode file) q
    travel_read f = travel_is s h (walk_entry (point_in s h) e le16 2 f)

-- FOR CODE that steps on from point q + k
module _ {file : List ℕ} {l : Layout} (s : Laid file l) (q k : ℕ) (h : q + k < l.points) {c : Walk}
    (e : c ≡ point_at l.pointblock (q + k)) where
  pub step_may : (0 < point_per) × (point_size * point_per ≤ entries_size) × (c.at + block_size < 2 ^ 64)
  step_may = walk_may q k (point_in s h) e

  pub step_on : {d : Walk} → d ≡ stepped point_per point_size c → d ≡ point_at l.pointblock (q + (k + 1))
  step_on = walk_on q k (point_in s h) e
