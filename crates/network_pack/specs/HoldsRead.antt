-- What is read of a file that holds a network: the tests find every block in its form, and `decode` gives the
-- network back. And back: a file in its form holds the network that it decodes to.
use mathlib.Core.{Path.◌≡◌, Path.refl, Path.sym, Path.ap, Path.◌∙◌, Path.subst, Bool.true, List.List}
use Prim.Native.Nat.{ℕ, zero, suc, ◌+◌, ◌*◌, ◌^◌, ◌≤◌, ◌<◌}
use native.Mathlib.{Nat.add-zero, Nat.add_assoc, Omega.arith}
use lib.{ListN.length, ListN.get_or, Dec.lit<, Dec.lit≤}
use Rattle.theory_loops.specs.Fill.{tab, get_or_tab}
use Rattle.file_fields.specs.Fields.{Bytes, le8, le16, le32, number, byte_of, byte_of_number, le16_number}
use Rattle.file_fields.specs.{Fields.le16_is, Fields.le32_is, Block.head_size, Block.entries_size}
use Rattle.file_blocks.specs.Place.{offset, blocks}
use Rattle.file_write.specs.Run.{RunLaid}
use Rattle.file_forms.specs.Form.{formed, RunFormed}
use Rattle.file_write.specs.RunLaws.{run_formed_lem, formed_run, run_table}
use Rattle.file_blocks.specs.Table.{entry16}
use Rattle.network.specs.declared.header.Header.{Header}
use Rattle.network.specs.{Limits.WithinLimits, Layout.arc_block, Layout.point_block}
use Rattle.network.specs.Network.{Network, nodes, arcs, points}
use Rattle.network.specs.Decode.{header_at, opens_in, closes_in, decode_by, decode}
use Rattle.network.specs.Node.{node_kind, node_size, node_per, node_blocks, node_fits, node_blocks_most}
use Rattle.network_encode.specs.Encode.{header_of, header_byte, cell_byte, triple_byte, point_byte, node_byte}
use Rattle.network_encode.specs.Encode.{Words, Proper, held_opens, held_closes, held, hours_byte}
use Rattle.network_encode.specs.Encode.{node_first, first_byte, second_byte, third_byte, tick_byte}
use Rattle.network_encode.specs.Encode.{travel_byte, number_byte, period_byte, nodes_byte, arcs_byte}
use Rattle.network_encode.specs.Encode.{cells_byte, points_byte}
use Rattle.file_blocks.specs.Kind.{network_kind, network_size, cell_size, cell_per, arc_kind, arc_size, arc_per}
use Rattle.file_blocks.specs.Kind.{point_kind, point_size, point_per, hours_kind, hours_size, hours_per}
use Rattle.network_pack.specs.Holds.{Holds}

-- WHAT THE TESTS READ: every block in its form
module _ {file : List ℕ} {h : Header} {n : Network} (w : WithinLimits h) (d : Holds file h n) where
  pub header_formed : formed file 0 network_kind 1 (head_size + network_size) ≡ true
  header_formed = formed_run file 0 network_kind 1 network_size 1 (λ _. header_byte h) (lit< tt) (lit< tt)
      (lit≤ tt) 0 (lit< tt) d.header

  pub nodes_formed : RunFormed file 1 (node_kind h.hours) (node_per h.hours) (node_size h.hours)
      h.nodes
  unfolding node_blocks
  nodes_formed j l =
      let f = node_fits h.hours in
      formed_run file 1 (node_kind h.hours) (node_per h.hours) (node_size h.hours) h.nodes
      (node_byte h.hours n.cell_of n.opens n.closes) f.some (omega (arith, f.holds)) f.fit j
      (omega (arith, node_blocks_most h.hours w.nodes_most)) (d.nodes j l)

  pub arcs_formed : RunFormed file (arc_block h) arc_kind arc_per arc_size h.arcs
  arcs_formed j l = formed_run file (arc_block h) arc_kind arc_per arc_size h.arcs
      (triple_byte n.tails n.heads n.counts) (lit< tt) (lit< tt) (lit≤ tt) j
      (omega (arith, w, node_blocks_most h.hours w.nodes_most)) (d.arcs j l)

  pub points_formed : RunFormed file (point_block h) point_kind point_per point_size h.points
  points_formed j l = formed_run file (point_block h) point_kind point_per point_size h.points
      (point_byte n.ticks n.travels) (lit< tt) (lit< tt) (lit≤ tt) j
      (omega (arith, w, node_blocks_most h.hours w.nodes_most)) (d.points j l)

  -- and the header's numbers in its fields
  module _ (f : h.number < 2 ^ 32) where
    byte_at : (at k : ℕ) → at + k < network_size → get_or file (head_size + at + k) 0 ≡ header_byte h (at + k)
    byte_at at k l =
        let q : head_size + at + k ≡ head_size + (at + k) = omega arith in
        rw q (d.header.entry 0 (at + k) (lit< tt) l)

    hours_read : get_or file 24 0 ≡ h.hours
    unfolding byte_of
    hours_read = byte_at 16 0 (omega arith) ∙ (hours_byte h w f 0 ∙ omega (arith, w))

    pub header_read : header_at file ≡ h
    header_read = λ i. record {
      number = le32_is file 8 h.number f (λ k l. byte_at 0 k (omega arith) ∙ number_byte h w f k l) i;
      period = le16_is file 12 h.period (omega (arith, w))
          (λ k l. byte_at 4 k (omega arith) ∙ period_byte h w f k l) i;
      nodes = le16_is file 14 h.nodes (omega (arith, w))
          (λ k l. byte_at 6 k (omega arith) ∙ nodes_byte h w f k l) i;
      arcs = le16_is file 16 h.arcs (omega (arith, w))
          (λ k l. byte_at 8 k (omega arith) ∙ arcs_byte h w f k l) i;
      cells = le16_is file 18 h.cells (omega (arith, w))
          (λ k l. byte_at 10 k (omega arith) ∙ cells_byte h w f k l) i;
      points = le32_is file 20 h.points (omega (arith, w))
          (λ k l. byte_at 12 k (omega arith) ∙ points_byte h w f k l) i;
      hours = hours_read i;
    }

-- WHAT IS DECODED: the tables, entry by entry
module _ (file : List ℕ) (from kind per size m : ℕ) (f : ℕ → ℕ → ℕ) (pos : 0 < per) (some : 0 < size)
    (fit : size * per ≤ entries_size)
    (d : (j : ℕ) → j < blocks per m → RunLaid file from kind per size m f j) where
  table_is : (at : ℕ) (s : List ℕ) → at + 2 ≤ size → length s ≡ m → Words s
      → ((i k : ℕ) → k < 2 → f i (at + k) ≡ byte_of (get_or s i 0) k)
      → tab m (entry16 file from per size at) ≡ s
  table_is at s a e w g =
      run_table file from kind per size m f pos some fit d at 2 (entry16 file from per size at) s a e
      w.word (λ i. le16_number file (offset from per size i + at)) g

module _ {file : List ℕ} {n : Network} (p : Proper n) (d : Holds file (header_of n) n) where
  abbrev arc_field : (at : ℕ) (s : List ℕ) → at + 2 ≤ arc_size → length s ≡ arcs n → Words s
      → ((i k : ℕ) → k < 2 → triple_byte n.tails n.heads n.counts i (at + k) ≡ byte_of (get_or s i 0) k)
      → tab (arcs n) (entry16 file (arc_block (header_of n)) arc_per arc_size at) ≡ s
  arc_field = table_is file (arc_block (header_of n)) arc_kind arc_per arc_size (arcs n)
      (triple_byte n.tails n.heads n.counts) (lit< tt) (lit< tt) (lit≤ tt) d.arcs

  abbrev point_field : (at : ℕ) (s : List ℕ) → at + 2 ≤ point_size → length s ≡ points n → Words s
      → ((i k : ℕ) → k < 2 → point_byte n.ticks n.travels i (at + k) ≡ byte_of (get_or s i 0) k)
      → tab (points n) (entry16 file (point_block (header_of n)) point_per point_size at) ≡ s
  point_field = table_is file (point_block (header_of n)) point_kind point_per point_size (points n)
      (point_byte n.ticks n.travels) (lit< tt) (lit< tt) (lit≤ tt) d.points

  -- the run of the nodes, by the number of hours
  run_of : (hours : ℕ) → n.hours ≡ hours → (j : ℕ) → j < blocks (node_per hours) (nodes n)
      → RunLaid file 1 (node_kind hours) (node_per hours) (node_size hours) (nodes n)
      (node_byte hours n.cell_of n.opens n.closes) j
  run_of hours e =
      subst (λ (x : ℕ). (j : ℕ) → j < blocks (node_per x) (nodes n)
      → RunLaid file 1 (node_kind x) (node_per x) (node_size x) (nodes n)
      (node_byte x n.cell_of n.opens n.closes) j) e d.nodes

  cells_read : tab (nodes n) (entry16 file 1 (node_per n.hours) (node_size n.hours) 0) ≡ n.cell_of
  cells_read =
      let f = node_fits n.hours in
      table_is file 1 (node_kind n.hours) (node_per n.hours) (node_size n.hours) (nodes n)
      (node_byte n.hours n.cell_of n.opens n.closes) f.some (omega (arith, f.holds)) f.fit
      d.nodes 0 n.cell_of (omega (arith, f.holds)) refl p.cells_fit
      (λ v k l. node_first n.cell_of n.opens n.closes v k n.hours l)

  opens_read : (hours : ℕ) → n.hours ≡ hours → tab (nodes n) (opens_in hours file) ≡ held_opens hours n
  unfolding node_per node_size node_kind node_byte
  opens_read zero e = refl
  opens_read (suc hours) e =
      table_is file 1 hours_kind hours_per hours_size (nodes n) (triple_byte n.cell_of n.opens n.closes)
      (lit< tt) (lit< tt) (lit≤ tt) (run_of (suc hours) e) 2 n.opens (lit≤ tt) p.opens_long
      p.opens_fit
      (λ v k l. second_byte n.cell_of n.opens n.closes v k l (p.cells_fit.word v))

  closes_read : (hours : ℕ) → n.hours ≡ hours
      → tab (nodes n) (closes_in hours n.period file) ≡ held_closes hours n
  unfolding node_per node_size node_kind node_byte
  closes_read zero e = refl
  closes_read (suc hours) e =
      table_is file 1 hours_kind hours_per hours_size (nodes n) (triple_byte n.cell_of n.opens n.closes)
      (lit< tt) (lit< tt) (lit≤ tt) (run_of (suc hours) e) 4 n.closes (lit≤ tt) p.closes_long
      p.closes_fit
      (λ v k l. third_byte n.cell_of n.opens n.closes v k (p.cells_fit.word v)
      (p.opens_fit.word v))

  pub tables_read : decode_by (header_of n) file ≡ held n
  tables_read = λ i. record {
    number = n.number;
    period = n.period;
    cells = n.cells;
    hours = n.hours;
    cell_of = cells_read i;
    opens = opens_read n.hours refl i;
    closes = closes_read n.hours refl i;
    tails = arc_field 0 n.tails (lit≤ tt) refl p.tails_fit
        (λ a k l. first_byte n.tails n.heads n.counts a k l) i;
    heads = arc_field 2 n.heads (lit≤ tt) p.heads_long p.heads_fit
        (λ a k l. second_byte n.tails n.heads n.counts a k l (p.tails_fit.word a)) i;
    counts = arc_field 4 n.counts (lit≤ tt) p.counts_long p.counts_fit
        (λ a k l. third_byte n.tails n.heads n.counts a k (p.tails_fit.word a)
        (p.heads_fit.word a)) i;
    ticks = point_field 0 n.ticks (lit≤ tt) refl p.ticks_fit
        (λ q k l. tick_byte n.ticks n.travels q k l) i;
    travels = point_field 2 n.travels (lit≤ tt) p.travels_long p.travels_fit
        (λ q k l. travel_byte n.ticks n.travels q k (p.ticks_fit.word q)) i;
  }

-- AND BACK: a file in its form holds the network that it decodes to, since its entries' bytes are those of
-- the fields read
module _ (file : List ℕ) (s : Bytes file) where
  back : (w o v : ℕ) → v ≡ number w (λ k. get_or file (o + k) 0) → (r : ℕ) → r < w
      → get_or file (o + r) 0 ≡ byte_of v r
  back w o v e r l = sym (rw e (byte_of_number w (λ k. get_or file (o + k) 0) (λ k m. s.byte (o + k)) r l))

  module _ (o : ℕ) where
    one_word : le16 file (o + 0) ≡ number 2 (λ k. get_or file (o + k) 0)
    unfolding number
    one_word = simp add-zero (omega arith)

    two_words : le16 file (o + 0) + 65536 * le16 file (o + 2) ≡ number 4 (λ k. get_or file (o + k) 0)
    unfolding number
    two_words = simp (add-zero, add_assoc) (omega arith)

    three_words : le16 file (o + 0) + 65536 * (le16 file (o + 2) + 65536 * le16 file (o + 4))
        ≡ number 6 (λ k. get_or file (o + k) 0)
    unfolding number
    three_words = simp (add-zero, add_assoc) (omega arith)

  -- the header's fields behind its number, and all of them
  later_words : le16 file 12 + 65536
      * (le16 file 14 + 65536
      * (le16 file 16 + 65536 * (le16 file 18 + 65536 * (le32 file 20 + 2 ^ 32 * le8 file 24))))
      ≡ number 13 (λ k. get_or file (12 + k) 0)
  unfolding number
  later_words = simp (add-zero, add_assoc) (omega arith)

  header_words : le32 file 8 + 2 ^ 32
      * (le16 file 12 + 65536
      * (le16 file 14 + 65536
      * (le16 file 16 + 65536 * (le16 file 18 + 65536 * (le32 file 20 + 2 ^ 32 * le8 file 24)))))
      ≡ number network_size (λ k. get_or file (head_size + k) 0)
  unfolding number
  header_words = ap (λ (x : ℕ). le32 file 8 + 2 ^ 32 * x) later_words ∙ four _ _ _ _ _
    where
      four : (a b c d x : ℕ) → a + 256 * b + 65536 * (c + 256 * d) + 2 ^ 32 * x
          ≡ a + 256 * (b + 256 * (c + 256 * (d + 256 * x)))
      four a b c d x = omega arith

  header_bytes : (i r : ℕ) → i < 1 → r < network_size
      → get_or file (offset 0 1 network_size i + r) 0 ≡ header_byte (header_at file) r
  unfolding offset header_byte
  header_bytes i r l m = let z : i ≡ 0 = omega arith in rw z (back network_size head_size _ header_words r m)

  module _ (first_formed_lem : formed file 0 network_kind 1 (head_size + network_size) ≡ true)
      (nodes_formed : RunFormed file 1 (node_kind (header_at file).hours) (node_per (header_at file).hours)
      (node_size (header_at file).hours) (header_at file).nodes)
      (arcs_formed : RunFormed file (arc_block (header_at file)) arc_kind arc_per arc_size (header_at file).arcs)
      (points_formed : RunFormed file (point_block (header_at file)) point_kind point_per point_size
      (header_at file).points) where
    abbrev h : Header
    h = header_at file

    -- the bytes of node v, by the number of hours
    abbrev Node : ℕ → ℕ → ℕ → Type 0
    Node hours v r = get_or file (offset 1 (node_per hours) (node_size hours) v + r) 0
        ≡ node_byte hours (decode file).cell_of (decode file).opens (decode file).closes v r

    node_bytes : (hours : ℕ) → h.hours ≡ hours → (v r : ℕ) → v < h.nodes → r < node_size hours
        → Node hours v r
    unfolding decode node_per node_size node_byte cell_byte triple_byte
    node_bytes zero e v r l m =
        back cell_size (offset 1 cell_per cell_size v) _
        (get_or_tab h.nodes (entry16 file 1 (node_per h.hours) (node_size h.hours) 0) v l
        ∙ rw e (one_word (offset 1 cell_per cell_size v))) r m
    node_bytes (suc hours) e v r l m = rw (
      get_or_tab h.nodes (entry16 file 1 (node_per h.hours) (node_size h.hours) 0) v l,
      get_or_tab h.nodes (opens_in h.hours file) v l,
      get_or_tab h.nodes (closes_in h.hours h.period file) v l,
      e,
    ) (back hours_size (offset 1 hours_per hours_size v) _ (three_words (offset 1 hours_per hours_size v)) r m)

    pub formed_holds : Holds file (header_at file) (decode file)
    unfolding decode triple_byte point_byte
    formed_holds = record {
      header = run_formed_lem file 0 network_kind 1 network_size 1 (λ _. header_byte h) (lit< tt) (lit< tt) (lit≤ tt)
          s header_bytes 0 first_formed_lem;
      nodes = λ j l.
          let f = node_fits h.hours in
          run_formed_lem file 1 (node_kind h.hours) (node_per h.hours) (node_size h.hours) h.nodes
          (node_byte h.hours (decode file).cell_of (decode file).opens (decode file).closes) f.some
          (omega (arith, f.holds)) f.fit s (node_bytes h.hours refl) j (nodes_formed j l);
      arcs = λ j l. run_formed_lem file (arc_block h) arc_kind arc_per arc_size h.arcs
          (triple_byte (decode file).tails (decode file).heads (decode file).counts) (lit< tt) (lit< tt)
          (lit≤ tt) s
          (λ a r l m. rw (
            get_or_tab h.arcs (entry16 file (arc_block h) arc_per arc_size 0) a l,
            get_or_tab h.arcs (entry16 file (arc_block h) arc_per arc_size 2) a l,
            get_or_tab h.arcs (entry16 file (arc_block h) arc_per arc_size 4) a l,
          )
          (back arc_size (offset (arc_block h) arc_per arc_size a) _
          (three_words (offset (arc_block h) arc_per arc_size a)) r m))
          j (arcs_formed j l);
      points = λ j l. run_formed_lem file (point_block h) point_kind point_per point_size h.points
          (point_byte (decode file).ticks (decode file).travels) (lit< tt) (lit< tt) (lit≤ tt) s
          (λ q r l m. rw (
            get_or_tab h.points (entry16 file (point_block h) point_per point_size 0) q l,
            get_or_tab h.points (entry16 file (point_block h) point_per point_size 2) q l,
          )
          (back point_size (offset (point_block h) point_per point_size q) _
          (two_words (offset (point_block h) point_per point_size q)) r m))
          j (points_formed j l);
    }
