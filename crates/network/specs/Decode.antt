-- The network that a file holds, field by field, and the laws by which code reads it in place.
-- Every list of bytes decodes to some network; what makes it a network file is validation.
use mathlib.Core.{Path.◌≡◌, Path.refl, Path.sym, Path.◌∙◌, List.List}
use Rattle.std.specs.Prelude.{ℕ, zero, suc, ◌+◌, ◌*◌, ◌^◌, ◌≤◌, ◌<◌}
use Rattle.std.proofs.Common.{arith}
use lib.{ListN.length, ListN.get_or, Dec.lit<, Dec.lit≤}
use Rattle.theory_loops.specs.Fill.{tab, length_tab, get_or_tab}
use Rattle.file_fields.specs.{Block.block_size, Fields.le8, Fields.le16, Fields.le32}
use Rattle.file_blocks.specs.{Table.entry16, Table.entry_is, Laid.LaidOut, Kind.point_per}
use Rattle.file_blocks.specs.Place.{blocks, RunInFile, EntryInFile, entry_stands}
use Rattle.network.specs.declared.header.{Header.Header, Layout.Layout}
use Rattle.network.specs.Limits.{WithinLimits, most_period, most_nodes, most_arcs, most_cells, most_points}
use Rattle.network.specs.{Limits.most_hours, Layout.LaidBlocks, Layout.layout_blocks}
use Rattle.network.specs.Node.{node_size, node_per, node_blocks, node_fits, node_blocks_most}
use Rattle.network.specs.Node.{size_plain, per_plain, size_held, per_held}
use Rattle.network.specs.Layout.{arc_block, point_block, all_blocks, most_blocks, most_bytes, layout_of}
use Rattle.network.specs.Network.{Network, nodes, arcs, points, cell, opens_at, closes_at, tail, head}
use Rattle.network.specs.Network.{count, tick, travel}
use Rattle.file_blocks.specs.Kind.{cell_size, cell_per, hours_size, hours_per, arc_size, arc_per, point_size}

-- the numbers in a file's first block
abbrev pub header_at : List ℕ → Header
header_at file = record {
  number = le32 file 8;
  period = le16 file 12;
  nodes = le16 file 14;
  arcs = le16 file 16;
  cells = le16 file 18;
  points = le32 file 20;
  hours = le8 file 24;
}

-- the hours of a node in a file: where none are held a node is open all day
abbrev pub opens_in : ℕ → List ℕ → ℕ → ℕ
opens_in zero file v = 0
opens_in (suc hours) file v = entry16 file 1 hours_per hours_size 2 v

abbrev pub closes_in : ℕ → ℕ → List ℕ → ℕ → ℕ
closes_in zero period file v = period
closes_in (suc hours) period file v = entry16 file 1 hours_per hours_size 4 v

pub opens_plain : (hours : ℕ) (file : List ℕ) (v : ℕ) → hours ≡ 0 → 0 ≡ opens_in hours file v
opens_plain hours file v e = rw e

pub closes_plain : (hours period : ℕ) (file : List ℕ) (v : ℕ) → hours ≡ 0
    → period ≡ closes_in hours period file v
closes_plain hours period file v e = rw e

pub opens_there : (hours : ℕ) (file : List ℕ) (v : ℕ) → (hours ≡ 0 → ⊥)
    → entry16 file 1 hours_per hours_size 2 v ≡ opens_in hours file v
opens_there zero file v e = absurd (e refl)
opens_there (suc hours) file v e = refl

pub closes_there : (hours period : ℕ) (file : List ℕ) (v : ℕ) → (hours ≡ 0 → ⊥)
    → entry16 file 1 hours_per hours_size 4 v ≡ closes_in hours period file v
closes_there zero period file v e = absurd (e refl)
closes_there (suc hours) period file v e = refl

-- the network of a header and of the tables where that header says they stand
abbrev pub decode_by : Header → List ℕ → Network
decode_by h file = record {
  number = h.number;
  period = h.period;
  cells = h.cells;
  hours = h.hours;
  cell_of = tab h.nodes (entry16 file 1 (node_per h.hours) (node_size h.hours) 0);
  opens = tab h.nodes (opens_in h.hours file);
  closes = tab h.nodes (closes_in h.hours h.period file);
  tails = tab h.arcs (entry16 file (arc_block h) arc_per arc_size 0);
  heads = tab h.arcs (entry16 file (arc_block h) arc_per arc_size 2);
  counts = tab h.arcs (entry16 file (arc_block h) arc_per arc_size 4);
  ticks = tab h.points (entry16 file (point_block h) point_per point_size 0);
  travels = tab h.points (entry16 file (point_block h) point_per point_size 2);
}

unfoldable pub decode : List ℕ → Network
decode file = decode_by (header_at file) file

-- a network file that is as long as its header says, laid out so
abbrev pub Laid : List ℕ → Layout → Type 0
Laid = LaidOut header_at layout_of WithinLimits all_blocks

-- the counts of the layout are those of the network
pub record Sizes (n : Network) (l : Layout) : Type 0 where
  pub period : l.period ≡ n.period
  pub cells : l.cells ≡ n.cells
  pub hours : l.hours ≡ n.hours
  pub nodes : l.nodes ≡ nodes n
  pub arcs : l.arcs ≡ arcs n
  pub points : l.points ≡ points n

-- and within the limits
pub record Small (l : Layout) : Type 0 where
  pub period_some : 1 ≤ l.period
  pub period_most : l.period ≤ most_period
  pub nodes_some : 1 ≤ l.nodes
  pub nodes_most : l.nodes ≤ most_nodes
  pub arcs_most : l.arcs ≤ most_arcs
  pub cells_some : 1 ≤ l.cells
  pub cells_most : l.cells ≤ most_cells
  pub points_most : l.points ≤ most_points
  pub hours_most : l.hours ≤ most_hours

pub layout_small : {h : Header} {l : Layout} → l ≡ layout_of h → WithinLimits h → Small l
unfolding layout_of
layout_small e w = rw e (record {
  period_some = w.period_some;
  period_most = w.period_most;
  nodes_some = w.nodes_some;
  nodes_most = w.nodes_most;
  arcs_most = w.arcs_most;
  cells_some = w.cells_some;
  cells_most = w.cells_most;
  points_most = w.points_most;
  hours_most = w.hours_most;
})

module _ {file : List ℕ} {l : Layout} (s : Laid file l) where
  pub laid_blocks : LaidBlocks (header_at file) l
  laid_blocks = layout_blocks s.is

  pub laid_sizes : Sizes (decode file) l
  unfolding decode layout_of
  laid_sizes = rw s.is (record {
    period = refl;
    cells = refl;
    hours = refl;
    nodes = sym (length_tab _ _);
    arcs = sym (length_tab _ _);
    points = sym (length_tab _ _);
  })

  pub laid_small : Small l
  laid_small = layout_small s.is s.within

  -- the runs stand in the file
  nodes_room : block_size * (1 + blocks (node_per l.hours) l.nodes) ≤ length file
  unfolding node_blocks
  nodes_room = rw (laid_blocks.hours, laid_blocks.nodes) (omega (arith, s.long))

  pub nodes_stored : RunInFile 1 (node_per l.hours) (node_size l.hours) l.nodes file
  nodes_stored =
      let f = node_fits l.hours in record { pos = f.some; fit = f.fit; room = nodes_room }

  -- by numbers that code has told apart
  pub nodes_stored_by : (per size : ℕ) → per ≡ node_per l.hours → size ≡ node_size l.hours
      → RunInFile 1 per size l.nodes file
  nodes_stored_by per size e f = rw (e, f) nodes_stored

  pub hours_stored : (l.hours ≡ 0 → ⊥) → RunInFile 1 hours_per hours_size l.nodes file
  hours_stored z = nodes_stored_by hours_per hours_size (per_held l.hours z) (size_held l.hours z)

  pub arcs_stored : RunInFile l.arcblock arc_per arc_size l.arcs file
  arcs_stored = record { pos = lit< tt; fit = lit≤ tt; room = omega (arith, s.long, laid_blocks) }

  pub points_stored : RunInFile l.pointblock point_per point_size l.points file
  points_stored = record { pos = lit< tt; fit = lit≤ tt; room = omega (arith, s.long, laid_blocks) }

  -- the file has no more blocks than any network's
  pub laid_few : l.blocks ≤ most_blocks
  laid_few = omega (
    arith,
    laid_blocks,
    s.within,
    node_blocks_most (header_at file).hours s.within.nodes_most,
  )

  pub laid_bytes : length file ≤ most_bytes
  laid_bytes = omega (arith, s.long, laid_blocks, laid_few)

  few : length file ≤ 2 ^ 63
  few = omega (arith, laid_bytes)

  -- FOR CODE that reads an entry of node v, arc a or point q: it stands in the file, and is the network's
  module _ {v : ℕ} (h : v < l.nodes) where
    node_in : EntryInFile 1 (node_per l.hours) (node_size l.hours) v file
    node_in = entry_stands nodes_stored few h

    node_is : {r : ℕ} → r ≡ entry16 file 1 (node_per l.hours) (node_size l.hours) 0 v
        → r ≡ cell (decode file) v
    unfolding decode
    node_is e =
        entry_is le16 file _ _ 0 refl laid_blocks.nodes h (rw laid_blocks.hours at e)

    -- an entry of a table of nodes
    listed : (f : ℕ → ℕ) {r : ℕ} → r ≡ f v → r ≡ get_or (tab (header_at file).nodes f) v 0
    listed f e = e ∙ sym (get_or_tab (header_at file).nodes f v (rw laid_blocks.nodes at h))

    -- where no hours are held
    module _ (z : l.hours ≡ 0) where
      none : (header_at file).hours ≡ 0
      none = sym laid_blocks.hours ∙ z

      pub cell_in : EntryInFile 1 cell_per cell_size v file
      cell_in = rw (← size_plain z, ← per_plain z) at node_in

      pub cell_is : {r : ℕ} → r ≡ entry16 file 1 cell_per cell_size 0 v → r ≡ cell (decode file) v
      cell_is e = node_is (rw (← size_plain z, ← per_plain z) e)

      pub opens_all : {r : ℕ} → r ≡ 0 → r ≡ opens_at (decode file) v
      unfolding decode
      opens_all e = listed _ (e ∙ opens_plain (header_at file).hours file v none)

      pub closes_all : {r : ℕ} → r ≡ l.period → r ≡ closes_at (decode file) v
      unfolding decode
      closes_all e =
          listed _ (e ∙ (laid_sizes.period ∙ closes_plain (header_at file).hours _ file v none))

    -- and where they are
    module _ (z : l.hours ≡ 0 → ⊥) where
      held : (header_at file).hours ≡ 0 → ⊥
      held e = z (laid_blocks.hours ∙ e)

      pub hours_in : EntryInFile 1 hours_per hours_size v file
      hours_in = rw (← size_held l.hours z, ← per_held l.hours z) at node_in

      pub cell_held : {r : ℕ} → r ≡ entry16 file 1 hours_per hours_size 0 v → r ≡ cell (decode file) v
      cell_held e = node_is (rw (← size_held l.hours z, ← per_held l.hours z) e)

      pub opens_held : {r : ℕ} → r ≡ entry16 file 1 hours_per hours_size 2 v → r ≡ opens_at (decode file) v
      unfolding decode
      opens_held e = listed _ (e ∙ opens_there (header_at file).hours file v held)

      pub closes_held : {r : ℕ} → r ≡ entry16 file 1 hours_per hours_size 4 v → r ≡ closes_at (decode file) v
      unfolding decode
      closes_held e = listed _ (e ∙ closes_there (header_at file).hours _ file v held)

  module _ {a : ℕ} (h : a < l.arcs) where
    pub arc_in_lem : EntryInFile l.arcblock arc_per arc_size a file
    arc_in_lem = entry_stands arcs_stored few h

    pub tail_is : {r : ℕ} → r ≡ entry16 file l.arcblock arc_per arc_size 0 a → r ≡ tail (decode file) a
    unfolding decode
    tail_is = entry_is le16 file arc_per arc_size 0 laid_blocks.arcblock laid_blocks.arcs h

    pub head_is : {r : ℕ} → r ≡ entry16 file l.arcblock arc_per arc_size 2 a → r ≡ head (decode file) a
    unfolding decode
    head_is = entry_is le16 file arc_per arc_size 2 laid_blocks.arcblock laid_blocks.arcs h

    pub count_is : {r : ℕ} → r ≡ entry16 file l.arcblock arc_per arc_size 4 a → r ≡ count (decode file) a
    unfolding decode
    count_is = entry_is le16 file arc_per arc_size 4 laid_blocks.arcblock laid_blocks.arcs h

  module _ {q : ℕ} (h : q < l.points) where
    pub point_in : EntryInFile l.pointblock point_per point_size q file
    point_in = entry_stands points_stored few h

    pub tick_is : {r : ℕ} → r ≡ entry16 file l.pointblock point_per point_size 0 q → r ≡ tick (decode file) q
    unfolding decode
    tick_is = entry_is le16 file point_per point_size 0 laid_blocks.pointblock laid_blocks.points h

    pub travel_is : {r : ℕ} → r ≡ entry16 file l.pointblock point_per point_size 2 q
        → r ≡ travel (decode file) q
    unfolding decode
    travel_is = entry_is le16 file point_per point_size 2 laid_blocks.pointblock laid_blocks.points h

-- for `search reads` where code reads a field
pub ruleset reads = (
  cell_in,
  cell_is,
  opens_all,
  closes_all,
  hours_in,
  cell_held,
  opens_held,
  closes_held,
  arc_in_lem,
  point_in,
  tail_is,
  head_is,
  count_is,
  tick_is,
  travel_is,
)
