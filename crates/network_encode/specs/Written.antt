-- A network's file as it is written from lent tables: an entry is put as one number, a block of a run is a
-- block of the file, and the file stands once all blocks do. The tables may be longer than their counts; the
-- file is that of their first entries.
use mathlib.Core.{Path.◌≡◌, Path.refl, Path.sym, Path.◌∙◌, Path.ap, Path.subst⁻¹, List.List}
use Prim.Native.Nat.{ℕ, zero, suc, ◌+◌, ◌*◌, ◌^◌, ◌≤◌, ◌<◌}
use Rattle.std.proofs.Common.{arith}
use lib.{ListN.length, ListN.get_or, ListN.take, Seq.get_or-take, Seq.length-take-le, Dec.lit<}
use Rattle.theory_loops.specs.Fill.{Filled, filled_list, length_tab, overwritten, fill_join}
use Rattle.file_write.specs.{Bytes.file_byte, Run.run_body, Run.header_body, RunLaws.same_body}
use Rattle.file_blocks.specs.Place.{blocks}
use Rattle.file_fields.specs.{Put.put, Put.put_join, Block.block_size, Block.head_size}
use Rattle.network.specs.declared.header.{Header.Header, Layout.Layout}
use Rattle.network.specs.{Limits.WithinLimits, Network.Network, Tables.Tables, Tables.network_of}
use Rattle.network.specs.Layout.{arc_block, point_block, all_blocks, most_blocks, LaidBlocks, layout_blocks}
use Rattle.network_encode.specs.Encode.{header_of, encode_by, encode, header_number, header_byte, cell_byte}
use Rattle.network_encode.specs.Encode.{node_byte, triple_byte, point_byte, body_by, header_body_lem}
use Rattle.network_encode.specs.Encode.{nodes_body, arcs_body, points_body}
use Rattle.network_encode.specs.Entries.{part_byte, InRun, entry_none, entry_put}
use Rattle.network_encode.specs.{BlockWritten.same_block, Packable.Packable}
use Rattle.network.specs.Node.{node_kind, node_size, node_per, node_blocks, node_fits, node_blocks_most}
use Rattle.network.specs.Node.{per_plain, per_held}
use Rattle.file_blocks.specs.Kind.{network_kind, network_size, cell_kind, cell_size, cell_per, arc_kind, arc_size}
use Rattle.file_blocks.specs.Kind.{arc_per, point_kind, point_size, point_per, hours_kind}

-- AN ENTRY is put as one number
module _ (base first m e : ℕ) (old s₀ s₁ : List ℕ) (l : e < m) where
  pub cell_put : (c : List ℕ)
      → Filled base (base + cell_size * e) (part_byte cell_size (cell_byte c) base first) old s₀
      → base + cell_size * m ≤ length old
      → s₁ ≡ put 2 s₀ (base + cell_size * e) (get_or c (first + e) 0)
      → Filled base (base + cell_size * (e + 1)) (part_byte cell_size (cell_byte c) base first) old s₁
  unfolding cell_byte
  cell_put c h r p = entry_put cell_size (cell_byte c) base first m e _ old s₀ s₁ h l r (λ k. refl) p

  pub triple_put : (t h k : List ℕ)
      → Filled base (base + arc_size * e) (part_byte arc_size (triple_byte t h k) base first) old s₀
      → base + arc_size * m ≤ length old
      → s₁ ≡ put 6 s₀ (base + arc_size * e)
      (get_or t (first + e) 0 + 65536 * (get_or h (first + e) 0 + 65536 * get_or k (first + e) 0))
      → Filled base (base + arc_size * (e + 1)) (part_byte arc_size (triple_byte t h k) base first) old s₁
  unfolding triple_byte
  triple_put t h k d r p = entry_put arc_size (triple_byte t h k) base first m e _ old s₀ s₁ d l r (λ i. refl) p

  pub point_put : (t v : List ℕ)
      → Filled base (base + point_size * e) (part_byte point_size (point_byte t v) base first) old s₀
      → base + point_size * m ≤ length old
      → s₁ ≡ put 4 s₀ (base + point_size * e) (get_or t (first + e) 0 + 65536 * get_or v (first + e) 0)
      → Filled base (base + point_size * (e + 1)) (part_byte point_size (point_byte t v) base first) old s₁
  unfolding point_byte
  point_put t v h r p = entry_put point_size (point_byte t v) base first m e _ old s₀ s₁ h l r (λ k. refl) p

-- the header's fields, put one behind the other, are one number, and that is its one entry
pub header_put : (h : Header) → WithinLimits h → h.number < 2 ^ 32 → (old s₁ s₂ s₃ s₄ s₅ s₆ s₇ : List ℕ)
    → s₁ ≡ put 4 old 8 h.number → s₂ ≡ put 2 s₁ 12 h.period → s₃ ≡ put 2 s₂ 14 h.nodes
    → s₄ ≡ put 2 s₃ 16 h.arcs → s₅ ≡ put 2 s₄ 18 h.cells → s₆ ≡ put 4 s₅ 20 h.points
    → s₇ ≡ put 1 s₆ 24 h.hours → s₇ ≡ put network_size old 8 (header_number h)
header_put h w l old s₁ s₂ s₃ s₄ s₅ s₆ s₇ e₁ e₂ e₃ e₄ e₅ e₆ e₇ =
    put_join 4 13 old s₁ s₇ 8 h.number _ l e₁
    (put_join 2 11 s₁ s₂ s₇ 12 h.period _ (omega (arith, w)) e₂
    (put_join 2 9 s₂ s₃ s₇ 14 h.nodes _ (omega (arith, w)) e₃
    (put_join 2 7 s₃ s₄ s₇ 16 h.arcs _ (omega (arith, w)) e₄
    (put_join 2 5 s₄ s₅ s₇ 18 h.cells _ (omega (arith, w)) e₅
    (put_join 4 1 s₅ s₆ s₇ 20 h.points h.hours (omega (arith, w)) e₆ e₇)))))

pub header_entry : (h : Header) (old new : List ℕ) → head_size + network_size ≤ length old
    → new ≡ put network_size old 8 (header_number h)
    → Filled head_size (head_size + network_size) (part_byte network_size (λ _. header_byte h) head_size 0) old new
unfolding header_byte
header_entry h old new r p =
    entry_put network_size (λ _. header_byte h) head_size 0 1 0 (header_number h) old old new
    (entry_none network_size (λ _. header_byte h) head_size 0 old) (lit< tt) r (λ k. refl) p

-- A BLOCK OF NODES is one of cells alone, or of cells with their hours
module _ (b nodes : ℕ) where
  pub plain_in : (hours : ℕ) → hours ≡ 0 → {room : ℕ} → InRun 1 (node_per hours) nodes b room
      → InRun 1 cell_per nodes b room
  plain_in hours z r = rw (← per_plain z) at r

  pub held_in : (hours : ℕ) → (hours ≡ 0 → ⊥) → {room : ℕ} → InRun 1 (node_per hours) nodes b room
      → InRun 1 arc_per nodes b room
  held_in hours z r = rw (← per_held hours z) at r

module _ (b nodes : ℕ) (cells opens closes old new : List ℕ) where
  pub plain_block : (hours : ℕ) → hours ≡ 0
      → Filled (block_size * b) (block_size * (b + 1))
      (file_byte (run_body cell_kind cell_per cell_size nodes (cell_byte cells) 1)) old new
      → Filled (block_size * b) (block_size * (b + 1))
      (file_byte (run_body (node_kind hours) (node_per hours) (node_size hours) nodes
      (node_byte hours cells opens closes) 1)) old new
  unfolding node_kind node_per node_size node_byte
  plain_block hours z w = rw z w

  pub held_block : (hours : ℕ) → (hours ≡ 0 → ⊥)
      → Filled (block_size * b) (block_size * (b + 1))
      (file_byte (run_body hours_kind arc_per arc_size nodes (triple_byte cells opens closes) 1)) old new
      → Filled (block_size * b) (block_size * (b + 1))
      (file_byte (run_body (node_kind hours) (node_per hours) (node_size hours) nodes
      (node_byte hours cells opens closes) 1)) old new
  unfolding node_kind node_per node_size node_byte
  held_block zero z w = absurd (z refl)
  held_block (suc hours) z w = w

-- for `search node_blocks_lem`
pub ruleset node_blocks_lem = (plain_in, held_in, plain_block, held_block)

-- A BLOCK stands in its run
module _ {h : Header} {l : Layout} {t : Tables} (p : Packable h l t) (b room : ℕ)
    (m : b < l.blocks) (r : block_size * l.blocks ≤ room) where
  abbrev at : LaidBlocks h l
  at = layout_blocks p.is

  near : b < most_blocks
  near = omega (arith, at, p.within, node_blocks_most h.hours p.within.nodes_most)

  within_nodes : b < l.arcblock → b < 1 + blocks (node_per l.hours) l.nodes
  unfolding node_blocks
  within_nodes z = rw (at.hours, at.nodes) (omega (arith, at.arcblock))

  pub nodes_in : 1 ≤ b → b < l.arcblock → InRun 1 (node_per l.hours) l.nodes b room
  nodes_in y z = record { after = y; before = within_nodes z; near = near; whole = omega arith }

  pub arcs_in : l.arcblock ≤ b → b < l.pointblock → InRun l.arcblock arc_per l.arcs b room
  arcs_in y z = record { after = y; before = omega (arith, at); near = near; whole = omega arith }

  pub points_in : l.pointblock ≤ b → InRun l.pointblock point_per l.points b room
  points_in y = record { after = y; before = omega (arith, at); near = near; whole = omega arith }

-- and is the file's
module _ {h : Header} {l : Layout} (t : Tables) (p : Packable h l t) (b : ℕ)
    (old new : List ℕ) where
  abbrev n : Network
  n = network_of h t

  abbrev q : LaidBlocks h l
  q = layout_blocks p.is

  -- a run written from whole tables is that of their first entries
  told : (kind per size m : ℕ) (f g : ℕ → ℕ → ℕ) (from : ℕ) → 0 < per → ((i r : ℕ) → i < m → f i r ≡ g i r)
      → body_by h n b ≡ run_body kind per size m g from b
      → Filled (block_size * b) (block_size * (b + 1)) (file_byte (run_body kind per size m f from)) old new
      → Filled (block_size * b) (block_size * (b + 1)) (file_byte (body_by h n)) old new
  told kind per size m f g from pos s e w =
      same_block (run_body kind per size m f from) (body_by h n) b
      (λ o. same_body kind per size m f g pos s from b o ∙ sym (ap (λ (y : ℕ → ℕ). y o) e)) old new w

  pub header_told : b < 1
      → Filled 0 block_size (file_byte (header_body network_kind network_size (header_byte h))) old new
      → Filled (block_size * b) (block_size * (b + 1)) (file_byte (body_by h (network_of h t))) old new
  header_told m w =
      let z : b ≡ 0 = omega arith in
      told network_kind 1 network_size 1 (λ _. header_byte h) (λ _. header_byte h) 0 (lit< tt) (λ i r a. refl)
      (header_body_lem h n b m) (rw z w)

  -- the entries of nodes from whole tables are those of their first entries
  node_bytes : (hours v r : ℕ) → v < h.nodes
      → node_byte hours t.cells t.opens t.closes v r
      ≡ node_byte hours n.cell_of n.opens n.closes v r
  unfolding node_byte cell_byte triple_byte
  node_bytes zero v r o = rw (get_or-take h.nodes t.cells v 0 o)
  node_bytes (suc hours) v r o = rw (
    get_or-take h.nodes t.cells v 0 o,
    get_or-take h.nodes t.opens v 0 o,
    get_or-take h.nodes t.closes v 0 o,
  )

  pub nodes_told : 1 ≤ b → b < l.arcblock
      → Filled (block_size * b) (block_size * (b + 1))
      (file_byte (run_body (node_kind l.hours) (node_per l.hours) (node_size l.hours) l.nodes
      (node_byte l.hours t.cells t.opens t.closes) 1)) old new
      → Filled (block_size * b) (block_size * (b + 1)) (file_byte (body_by h (network_of h t))) old new
  nodes_told m a w =
      told (node_kind h.hours) (node_per h.hours) (node_size h.hours) h.nodes
      (node_byte h.hours t.cells t.opens t.closes)
      (node_byte h.hours n.cell_of n.opens n.closes) 1 (node_fits h.hours).some
      (node_bytes h.hours)
      (nodes_body h n b m (rw q.arcblock at a))
      (rw (q.nodes, q.hours) at w)

  pub arcs_told : l.arcblock ≤ b → b < l.pointblock
      → Filled (block_size * b) (block_size * (b + 1))
      (file_byte (run_body arc_kind arc_per arc_size l.arcs (triple_byte t.tails t.heads t.counts)
      l.arcblock)) old new
      → Filled (block_size * b) (block_size * (b + 1)) (file_byte (body_by h (network_of h t))) old new
  unfolding triple_byte
  arcs_told m a w =
      told arc_kind arc_per arc_size h.arcs (triple_byte t.tails t.heads t.counts)
      (triple_byte (take h.arcs t.tails) (take h.arcs t.heads) (take h.arcs t.counts))
      (arc_block h) (lit< tt)
      (λ i r o. rw (
        get_or-take h.arcs t.tails i 0 o,
        get_or-take h.arcs t.heads i 0 o,
        get_or-take h.arcs t.counts i 0 o,
      ))
      (arcs_body h n b (rw q.arcblock at m) (rw q.pointblock at a))
      (rw (q.arcs, q.arcblock) at w)

  pub points_told : l.pointblock ≤ b
      → Filled (block_size * b) (block_size * (b + 1))
      (file_byte (run_body point_kind point_per point_size l.points (point_byte t.ticks t.travels)
      l.pointblock)) old new
      → Filled (block_size * b) (block_size * (b + 1)) (file_byte (body_by h (network_of h t))) old new
  unfolding point_byte
  points_told m w =
      told point_kind point_per point_size h.points (point_byte t.ticks t.travels)
      (point_byte (take h.points t.ticks) (take h.points t.travels)) (point_block h) (lit< tt)
      (λ i r o. rw (get_or-take h.points t.ticks i 0 o, get_or-take h.points t.travels i 0 o))
      (points_body h n b (rw q.pointblock at m))
      (rw (q.points, q.pointblock) at w)

-- THE FILE, block after block
pub file_more : (f : ℕ → ℕ) (b : ℕ) (old mid new : List ℕ) → Filled 0 (block_size * b) f old mid
    → Filled (block_size * b) (block_size * (b + 1)) f mid new → Filled 0 (block_size * (b + 1)) f old new
file_more f b old mid new g h =
    fill_join f 0 (block_size * b) (block_size * (b + 1)) old mid new (omega arith) (omega arith) g h

module _ {h : Header} {l : Layout} (t : Tables) (p : Packable h l t) where
  pub packed_header : header_of (network_of h t) ≡ h
  packed_header =
      let q = layout_blocks p.is in
      λ i. record {
        number = h.number;
        period = h.period;
        nodes = length-take-le h.nodes t.cells (rw q.nodes at p.room.cells_room) i;
        arcs = length-take-le h.arcs t.tails (rw q.arcs at p.room.tails_room) i;
        cells = h.cells;
        points = length-take-le h.points t.ticks (rw q.points at p.room.ticks_room) i;
        hours = h.hours;
      }

  pub file_whole : (b : ℕ) (old new : List ℕ) → block_size * l.blocks ≤ length old
      → Filled 0 (block_size * b) (file_byte (body_by h (network_of h t))) old new
      → b ≤ l.blocks → l.blocks ≤ b → new ≡ overwritten (encode (network_of h t)) old
  unfolding encode
  file_whole b old new r w y z =
      let n = network_of h t in
      let e : b ≡ all_blocks h = omega (arith, (layout_blocks p.is).all) in
      let f : new ≡ overwritten (encode_by h n) old =
      rw length_tab (filled_list (file_byte (body_by h n)) (block_size * all_blocks h) old new (omega arith)
      (rw e at w)) in
      subst⁻¹ (λ (y : Header). new ≡ overwritten (encode_by y n) old) packed_header f

-- for `search blockwise` where a block is written
pub ruleset blockwise = (nodes_in, arcs_in, points_in, header_told, nodes_told, arcs_told, points_told)
