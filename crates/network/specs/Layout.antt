-- Where the tables of a network stand in its file: the header in block 0, then the nodes (kind 2, or 9 where
-- hours are held), the arcs (kind 3) and the points (kind 4), each a run of blocks of its own.
use Rattle.std.specs.Prelude.{◌≡◌, refl, ℕ, ◌+◌, ◌*◌}
use Rattle.file_fields.specs.Block.{block_size}
use Rattle.file_blocks.specs.Place.{blocks}
use Rattle.file_blocks.specs.Kind.{cell_kind, cell_size, cell_per, hours_kind, hours_size, hours_per}
use Rattle.file_blocks.specs.Kind.{arc_kind, arc_size, arc_per, point_kind, point_size, point_per}
use Rattle.file_blocks.specs.declared.place.Run.{Run}
use Rattle.network.specs.Limits.{most_nodes, most_arcs, most_points}
use Rattle.network.specs.declared.header.{Header.Header, Layout.Layout}
use Rattle.network.specs.Node.{node_kind, node_size, node_per, node_blocks}

-- the first block of the arcs and of the points, and how many blocks there are
abbrev pub arc_block : Header → ℕ
arc_block h = 1 + node_blocks h.hours h.nodes

abbrev pub point_block : Header → ℕ
point_block h = arc_block h + blocks arc_per h.arcs

abbrev pub all_blocks : Header → ℕ
all_blocks h = point_block h + blocks point_per h.points

-- the blocks and bytes of a file of a network within the limits, at most
abbrev pub most_blocks : ℕ
most_blocks = 1 + blocks hours_per most_nodes + blocks arc_per most_arcs + blocks point_per most_points

abbrev pub most_bytes : ℕ
most_bytes = block_size * most_blocks

-- which is the number of document 02
pub most_blocks_lem : most_blocks ≡ 558
most_blocks_lem = refl

unfoldable pub layout_of : Header → Layout
layout_of h = record {
  period = h.period;
  nodes = h.nodes;
  arcs = h.arcs;
  cells = h.cells;
  points = h.points;
  hours = h.hours;
  arcblock = arc_block h;
  pointblock = point_block h;
  blocks = all_blocks h;
}

-- the layout's counts and blocks, by the header
pub record LaidBlocks (h : Header) (l : Layout) : Type 0 where
  pub nodes : l.nodes ≡ h.nodes
  pub arcs : l.arcs ≡ h.arcs
  pub points : l.points ≡ h.points
  pub hours : l.hours ≡ h.hours
  pub arcblock : l.arcblock ≡ arc_block h
  pub pointblock : l.pointblock ≡ point_block h
  pub all : l.blocks ≡ all_blocks h

pub layout_blocks : {h : Header} {l : Layout} → l ≡ layout_of h → LaidBlocks h l
unfolding layout_of
layout_blocks e = rw e (record {
  nodes = refl;
  arcs = refl;
  points = refl;
  hours = refl;
  arcblock = refl;
  pointblock = refl;
  all = refl;
})

-- the runs: of the nodes, which are of the one kind or of the other, of the arcs and of the points
abbrev pub nodes_run : Layout → Run
nodes_run l = record {
  from = 1;
  kind = record { number = node_kind l.hours; size = node_size l.hours; per = node_per l.hours };
  count = l.nodes;
}

abbrev pub cells_run : Layout → Run
cells_run l = record {
  from = 1;
  kind = record { number = cell_kind; size = cell_size; per = cell_per };
  count = l.nodes;
}

abbrev pub hours_run : Layout → Run
hours_run l = record {
  from = 1;
  kind = record { number = hours_kind; size = hours_size; per = hours_per };
  count = l.nodes;
}

abbrev pub arcs_run : Layout → Run
arcs_run l = record {
  from = l.arcblock;
  kind = record { number = arc_kind; size = arc_size; per = arc_per };
  count = l.arcs;
}

abbrev pub points_run : Layout → Run
points_run l = record {
  from = l.pointblock;
  kind = record { number = point_kind; size = point_size; per = point_per };
  count = l.points;
}

-- FOR THE CODE, which has counted the blocks of each run
pub layout_told : (h : Header) (per a b c : ℕ) → per ≡ node_per h.hours → a ≡ blocks per h.nodes
    → b ≡ blocks arc_per h.arcs → c ≡ blocks point_per h.points
    → ◌≡◌ {A = Layout}
    (record {
      period = h.period;
      nodes = h.nodes;
      arcs = h.arcs;
      cells = h.cells;
      points = h.points;
      hours = h.hours;
      arcblock = 1 + a;
      pointblock = 1 + a + b;
      blocks = 1 + a + b + c;
    })
    (layout_of h)
unfolding layout_of node_blocks
layout_told h per a b c p e f g = rw (e, f, g, p)
