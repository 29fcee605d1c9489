-- A file that holds a network: each block has its head, the entries of the network's tables, and zeros after
-- them. Both ways between this and the bytes of `encode`.
use mathlib.Core.{Path.◌≡◌, Path.sym, Path.◌∙◌, Path.ap, Path.subst, Bool.true, List.List}
use Rattle.std.specs.Prelude.{ℕ, ◌+◌, ◌-◌, ◌*◌, ◌≤◌, ◌<◌}
use native.Mathlib.{Omega.arith, Decide.dec_lt}
use lib.{ListN.length, ListN.get_or, Dec.lit<, Dec.lit≤}
use Rattle.file_fields.specs.{Fields.Bytes, Sum.good, Block.block_size, Block.summed_size, Block.entries_size}
use Rattle.file_blocks.specs.{Place.blocks, Kind.point_per}
use Rattle.file_write.specs.{Bytes.file_is, Run.run_body, Run.RunLaid}
use Rattle.file_write.specs.RunLaws.{laid_run, file_run}
use Rattle.network.specs.declared.header.Header.{Header}
use Rattle.network.specs.{Layout.arc_block, Layout.point_block, Layout.all_blocks, Network.Network}
use Rattle.network.specs.Node.{node_kind, node_size, node_per, node_blocks, NodeFits, node_fits}
use Rattle.network_encode.specs.Encode.{header_byte, node_byte, triple_byte, point_byte, body_by, encode_by}
use Rattle.network_encode.specs.Encode.{header_body_lem, nodes_body, arcs_body, points_body}
use Rattle.file_blocks.specs.Kind.{network_kind, network_size, arc_kind, arc_size, arc_per, point_kind, point_size}

pub record Holds (file : List ℕ) (h : Header) (n : Network) : Type 0 where
  pub header : RunLaid file 0 network_kind 1 network_size 1 (λ _. header_byte h) 0
  pub nodes : (j : ℕ) → j < blocks (node_per h.hours) h.nodes
      → RunLaid file 1 (node_kind h.hours) (node_per h.hours) (node_size h.hours) h.nodes
      (node_byte h.hours n.cell_of n.opens n.closes) j
  pub arcs : (j : ℕ) → j < blocks arc_per h.arcs
      → RunLaid file (arc_block h) arc_kind arc_per arc_size h.arcs
      (triple_byte n.tails n.heads n.counts) j
  pub points : (j : ℕ) → j < blocks point_per h.points
      → RunLaid file (point_block h) point_kind point_per point_size h.points
      (point_byte n.ticks n.travels) j

-- THE BYTES of `encode`
module _ (h : Header) (n : Network) where
  abbrev run_in : (from kind per size m : ℕ) (f : ℕ → ℕ → ℕ) → 0 < per → 0 < size → size * per ≤ entries_size
      → (j : ℕ) → from + j < all_blocks h
      → body_by h n (from + j) ≡ run_body kind per size m f from (from + j)
      → RunLaid (encode_by h n) from kind per size m f j
  run_in = file_run (body_by h n) (all_blocks h)

  abbrev fits : NodeFits h.hours
  fits = node_fits h.hours

  node_some : 0 < node_size h.hours
  node_some = omega (arith, fits.holds)

  -- the block of a node stands before those of the arcs
  before_arcs : (j : ℕ) → j < blocks (node_per h.hours) h.nodes → 1 + j < arc_block h
  unfolding node_blocks
  before_arcs j l = omega arith

  after_header : (b : ℕ) → 1 ≤ b → b < arc_block h → b - 1 < blocks (node_per h.hours) h.nodes
  unfolding node_blocks
  after_header b l m = omega arith

  pub encode_holds : Holds (encode_by h n) h n
  encode_holds = record {
    header = run_in 0 network_kind 1 network_size 1 (λ _. header_byte h) (lit< tt) (lit< tt) (lit≤ tt) 0
        (omega arith) (header_body_lem h n 0 (lit< tt));
    nodes = λ j l. run_in 1 (node_kind h.hours) (node_per h.hours) (node_size h.hours) h.nodes _
        fits.some node_some fits.fit j (omega (arith, before_arcs j l))
        (nodes_body h n (1 + j) (omega arith) (before_arcs j l));
    arcs = λ j l. run_in (arc_block h) arc_kind arc_per arc_size h.arcs _ (lit< tt) (lit< tt) (lit≤ tt) j
        (omega arith) (arcs_body h n (arc_block h + j) (omega arith) (omega arith));
    points = λ j l. run_in (point_block h) point_kind point_per point_size h.points _ (lit< tt) (lit< tt)
        (lit≤ tt) j (omega arith) (points_body h n (point_block h + j) (omega arith));
  }

  module _ (file : List ℕ) (d : Holds file h n) where
    run_out : (from kind per size m : ℕ) (f : ℕ → ℕ → ℕ) → 0 < per → 0 < size → size * per ≤ entries_size
        → (b : ℕ) → from ≤ b
        → body_by h n b ≡ run_body kind per size m f from b → RunLaid file from kind per size m f (b - from)
        → (o : ℕ) → o < summed_size → get_or file (block_size * b + o) 0 ≡ body_by h n b o
    run_out from kind per size m f pos some fit b l e r o k =
        let q : from + (b - from) ≡ b = omega arith in
        (rw q at (laid_run file from kind per size m f pos some fit (b - from) r o k))
        ∙ sym (ap (λ (g : ℕ → ℕ). g o) e)

    block_bytes : (b o : ℕ) → b < all_blocks h → o < summed_size
        → get_or file (block_size * b + o) 0 ≡ body_by h n b o
    block_bytes b o l m = elim (dec_lt b 1) [
      | yes p ↦
          let z : 0 ≡ b - 0 = omega arith in
          run_out 0 network_kind 1 network_size 1 (λ _. header_byte h) (lit< tt) (lit< tt) (lit≤ tt) b
          (omega arith) (header_body_lem h n b p)
          (subst (λ (j : ℕ). RunLaid file 0 network_kind 1 network_size 1 (λ _. header_byte h) j) z
          d.header) o m
      | no p ↦ elim (dec_lt b (arc_block h)) [
        | yes q ↦ run_out 1 (node_kind h.hours) (node_per h.hours) (node_size h.hours) h.nodes _
            fits.some node_some fits.fit b (omega arith) (nodes_body h n b (omega arith) q)
            (d.nodes (b - 1) (after_header b (omega arith) q)) o m
        | no q ↦ elim (dec_lt b (point_block h)) [
          | yes r ↦ run_out (arc_block h) arc_kind arc_per arc_size h.arcs _ (lit< tt) (lit< tt) (lit≤ tt) b
              (omega arith) (arcs_body h n b (omega arith) r) (d.arcs (b - arc_block h) (omega arith)) o m
          | no r ↦ run_out (point_block h) point_kind point_per point_size h.points _ (lit< tt) (lit< tt)
              (lit≤ tt) b (omega arith) (points_body h n b (omega arith))
              (d.points (b - point_block h) (omega arith)) o m
        ]
      ]
    ]

    pub holds_encode : Bytes file → length file ≡ block_size * all_blocks h
        → ((b : ℕ) → b < all_blocks h → good file b ≡ true) → file ≡ encode_by h n
    holds_encode s e g = file_is (body_by h n) file (all_blocks h) s e g block_bytes
