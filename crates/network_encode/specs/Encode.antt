-- The bytes of a network: block 0 for its header, then a run of blocks for the nodes, one for the arcs and
-- one for the points, each with its check. An entry is one number, its fields one behind the other, low byte
-- first. `Proper` says which networks fit into these fields.
use mathlib.Core.{Path.◌≡◌, Path.refl, Path.sym, Path.◌∙◌, Bool.cond, List.List}
use Prim.Native.Nat.{ℕ, zero, suc, ◌+◌, ◌*◌, ◌^◌, ◌≤◌, ◌<◌}
use native.Mathlib.Omega.{arith}
use lib.{ListN.length, ListN.get_or, Dec.ltb, Seq.ext_get_or}
use borrow.Author.Tests.{lt-ltb, le-ltb}
use Rattle.theory_loops.specs.Fill.{tab, length_tab, get_or_tab}
use Rattle.file_fields.specs.Fields.{byte_of, byte_of_low, byte_of_high}
use Rattle.file_write.specs.{Bytes.file_of, Run.run_body, Run.header_body}
use Rattle.file_blocks.specs.Kind.{point_per}
use Rattle.network.specs.declared.header.Header.{Header}
use Rattle.network.specs.{Limits.WithinLimits, Layout.arc_block, Layout.point_block, Layout.all_blocks}
use Rattle.network.specs.{Network.Network, Network.nodes, Network.arcs, Network.points, Sound.SoundHours}
use Rattle.network.specs.Node.{node_kind, node_size, node_per}
use Rattle.file_blocks.specs.Kind.{network_kind, network_size, arc_kind, arc_size, arc_per, point_kind, point_size}

abbrev pub header_of : Network → Header
header_of n = record {
  number = n.number;
  period = n.period;
  nodes = nodes n;
  arcs = arcs n;
  cells = n.cells;
  points = points n;
  hours = n.hours;
}

-- the header's entry as one number
abbrev pub header_number : Header → ℕ
header_number h =
    h.number + 2 ^ 32
    * (h.period + 65536
    * (h.nodes + 65536
    * (h.arcs + 65536 * (h.cells + 65536 * (h.points + 2 ^ 32 * h.hours)))))

-- byte r of the header, of a cell, of three fields (an arc's, or a node's cell with its hours), and of a
-- point
unfoldable pub header_byte : Header → ℕ → ℕ
header_byte h r = byte_of (header_number h) r

unfoldable pub cell_byte : List ℕ → ℕ → ℕ → ℕ
cell_byte cells v r = byte_of (get_or cells v 0) r

unfoldable pub triple_byte : List ℕ → List ℕ → List ℕ → ℕ → ℕ → ℕ
triple_byte xs ys zs i r = byte_of (get_or xs i 0 + 65536 * (get_or ys i 0 + 65536 * get_or zs i 0)) r

unfoldable pub point_byte : List ℕ → List ℕ → ℕ → ℕ → ℕ
point_byte ticks travels q r = byte_of (get_or ticks q 0 + 65536 * get_or travels q 0) r

-- byte r of node v, whose hours stand behind its cell where they are held
unfoldable pub node_byte : ℕ → List ℕ → List ℕ → List ℕ → ℕ → ℕ → ℕ
node_byte zero cells opens closes v r = cell_byte cells v r
node_byte (suc hours) cells opens closes v r = triple_byte cells opens closes v r

-- the bytes of block b but its check, by the run that it belongs to
unfoldable pub body_by : Header → Network → ℕ → ℕ → ℕ
body_by h n b =
    cond (ltb b 1) (header_body network_kind network_size (header_byte h) b)
    (cond (ltb b (arc_block h))
    (run_body (node_kind h.hours) (node_per h.hours) (node_size h.hours) h.nodes
    (node_byte h.hours n.cell_of n.opens n.closes) 1 b)
    (cond (ltb b (point_block h))
    (run_body arc_kind arc_per arc_size h.arcs (triple_byte n.tails n.heads n.counts) (arc_block h) b)
    (run_body point_kind point_per point_size h.points (point_byte n.ticks n.travels) (point_block h) b)))

-- the file of the tables of n under a header, and the file of n
abbrev pub encode_by : Header → Network → List ℕ
encode_by h n = file_of (body_by h n) (all_blocks h)

unfoldable pub encode : Network → List ℕ
encode n = encode_by (header_of n) n

-- every entry of a list has two bytes
pub record Words (s : List ℕ) : Type 0 where
  pub word : (k : ℕ) → get_or s k 0 < 65536

-- a network within the limits, whose tables agree in their lengths and whose numbers fit their fields
pub record Proper (n : Network) : Type 0 where
  pub within : WithinLimits (header_of n)
  pub number_fits : n.number < 2 ^ 32
  pub opens_long : length n.opens ≡ nodes n
  pub closes_long : length n.closes ≡ nodes n
  pub heads_long : length n.heads ≡ arcs n
  pub counts_long : length n.counts ≡ arcs n
  pub travels_long : length n.travels ≡ points n
  pub cells_fit : Words n.cell_of
  pub opens_fit : Words n.opens
  pub closes_fit : Words n.closes
  pub tails_fit : Words n.tails
  pub heads_fit : Words n.heads
  pub counts_fit : Words n.counts
  pub ticks_fit : Words n.ticks
  pub travels_fit : Words n.travels

-- the network that its file holds: without hours every node is open all day
abbrev pub held_opens : ℕ → Network → List ℕ
held_opens zero n = tab (nodes n) (λ _. 0)
held_opens (suc hours) n = n.opens

abbrev pub held_closes : ℕ → Network → List ℕ
held_closes zero n = tab (nodes n) (λ _. n.period)
held_closes (suc hours) n = n.closes

abbrev pub held : Network → Network
held n = record {
  number = n.number;
  period = n.period;
  cells = n.cells;
  hours = n.hours;
  cell_of = n.cell_of;
  opens = held_opens n.hours n;
  closes = held_closes n.hours n;
  tails = n.tails;
  heads = n.heads;
  counts = n.counts;
  ticks = n.ticks;
  travels = n.travels;
}

-- which is the network itself where its hours are sound
module _ {n : Network} (p : Proper n) (s : (v : ℕ) → v < nodes n → SoundHours n v) where
  opens_held : (hours : ℕ) → n.hours ≡ hours → held_opens hours n ≡ n.opens
  opens_held (suc hours) e = refl
  opens_held zero e =
      ext_get_or 0 _ _ (length_tab _ _ ∙ sym p.opens_long)
      (λ v l.
      let k : v < nodes n = omega (arith, length_tab (nodes n) (λ (_ : ℕ). 0)) in
      get_or_tab _ _ v k ∙ sym ((s v k).all_day e).0)

  closes_held : (hours : ℕ) → n.hours ≡ hours → held_closes hours n ≡ n.closes
  closes_held (suc hours) e = refl
  closes_held zero e =
      ext_get_or 0 _ _ (length_tab _ _ ∙ sym p.closes_long)
      (λ v l.
      let k : v < nodes n = omega (arith, length_tab (nodes n) (λ (_ : ℕ). n.period)) in
      get_or_tab _ _ v k ∙ sym ((s v k).all_day e).1)

  pub held_same : held n ≡ n
  held_same = λ i. record {
    number = n.number;
    period = n.period;
    cells = n.cells;
    hours = n.hours;
    cell_of = n.cell_of;
    opens = opens_held n.hours refl i;
    closes = closes_held n.hours refl i;
    tails = n.tails;
    heads = n.heads;
    counts = n.counts;
    ticks = n.ticks;
    travels = n.travels;
  }

-- WHICH RUN a block belongs to
module _ (h : Header) (n : Network) (b : ℕ) where
  pub header_body_lem : b < 1 → body_by h n b ≡ header_body network_kind network_size (header_byte h) b
  unfolding body_by
  header_body_lem l = rw (lt-ltb b 1 l)

  pub nodes_body : 1 ≤ b → b < arc_block h
      → body_by h n b ≡ run_body (node_kind h.hours) (node_per h.hours) (node_size h.hours) h.nodes
      (node_byte h.hours n.cell_of n.opens n.closes) 1 b
  unfolding body_by
  nodes_body l m = rw (le-ltb b 1 l, lt-ltb b (arc_block h) m)

  pub arcs_body : arc_block h ≤ b → b < point_block h
      → body_by h n b ≡ run_body arc_kind arc_per arc_size h.arcs (triple_byte n.tails n.heads n.counts)
      (arc_block h) b
  unfolding body_by
  arcs_body l m = rw (le-ltb b 1 (omega arith), le-ltb b (arc_block h) l, lt-ltb b (point_block h) m)

  pub points_body : point_block h ≤ b
      → body_by h n b ≡ run_body point_kind point_per point_size h.points (point_byte n.ticks n.travels)
      (point_block h) b
  unfolding body_by
  points_body l = rw (
    le-ltb b 1 (omega arith),
    le-ltb b (arc_block h) (omega arith),
    le-ltb b (point_block h) l,
  )

-- WHICH BYTES a field has: those of the first field of two bytes, and those after it
here : (x y k : ℕ) → k < 2 → byte_of (x + 65536 * y) (0 + k) ≡ byte_of x k
here x y k l = let z : 0 + k ≡ k = omega arith in rw z (byte_of_low 2 x y k l)

after : (x y k : ℕ) → x < 65536 → byte_of (x + 65536 * y) (2 + k) ≡ byte_of y k
after x y k l = byte_of_high 2 x y k l

module _ (s t : List ℕ) (i k : ℕ) where
  pub tick_byte : k < 2 → point_byte s t i (0 + k) ≡ byte_of (get_or s i 0) k
  unfolding point_byte
  tick_byte l = here _ _ k l

  pub travel_byte : get_or s i 0 < 65536 → point_byte s t i (2 + k) ≡ byte_of (get_or t i 0) k
  unfolding point_byte
  travel_byte m = after _ _ k m

module _ (s t u : List ℕ) (i k : ℕ) where
  -- a node's cell stands first, with hours or without
  pub node_first : (hours : ℕ) → k < 2 → node_byte hours s t u i (0 + k) ≡ byte_of (get_or s i 0) k
  unfolding node_byte cell_byte triple_byte
  node_first zero l = let z : 0 + k ≡ k = omega arith in rw z
  node_first (suc hours) l = here _ _ k l

  pub first_byte : k < 2 → triple_byte s t u i (0 + k) ≡ byte_of (get_or s i 0) k
  unfolding triple_byte
  first_byte l = here _ _ k l

  pub second_byte : k < 2 → get_or s i 0 < 65536 → triple_byte s t u i (2 + k) ≡ byte_of (get_or t i 0) k
  unfolding triple_byte
  second_byte l m =
      let z : 2 + k ≡ 2 + (0 + k) = omega arith in
      rw z (after _ _ (0 + k) m ∙ here _ _ k l)

  pub third_byte : get_or s i 0 < 65536 → get_or t i 0 < 65536
      → triple_byte s t u i (4 + k) ≡ byte_of (get_or u i 0) k
  unfolding triple_byte
  third_byte m n =
      let z : 4 + k ≡ 2 + (2 + k) = omega arith in
      rw z (after _ _ (2 + k) m ∙ after _ _ k n)

-- the same of a header's fields
module _ (h : Header) (w : WithinLimits h) (l : h.number < 2 ^ 32) (k : ℕ) where
  rest : (m : ℕ) → header_byte h (4 + m) ≡ byte_of
      (h.period + 65536
      * (h.nodes + 65536
      * (h.arcs + 65536 * (h.cells + 65536 * (h.points + 2 ^ 32 * h.hours))))) m
  unfolding header_byte
  rest m = byte_of_high 4 h.number _ m l

  pub number_byte : k < 4 → header_byte h (0 + k) ≡ byte_of h.number k
  unfolding header_byte
  number_byte q = let z : 0 + k ≡ k = omega arith in rw z (byte_of_low 4 h.number _ k q)

  pub period_byte : k < 2 → header_byte h (4 + k) ≡ byte_of h.period k
  period_byte q = let z : 4 + k ≡ 4 + (0 + k) = omega arith in rw z (rest (0 + k) ∙ here _ _ k q)

  pub nodes_byte : k < 2 → header_byte h (6 + k) ≡ byte_of h.nodes k
  nodes_byte q =
      let z : 6 + k ≡ 4 + (2 + (0 + k)) = omega arith in
      rw z (rest (2 + (0 + k)) ∙ after _ _ (0 + k) (omega (arith, w)) ∙ here _ _ k q)

  pub arcs_byte : k < 2 → header_byte h (8 + k) ≡ byte_of h.arcs k
  arcs_byte q =
      let z : 8 + k ≡ 4 + (2 + (2 + (0 + k))) = omega arith in
      rw z (rest (2 + (2 + (0 + k))) ∙ after _ _ (2 + (0 + k)) (omega (arith, w))
      ∙ after _ _ (0 + k) (omega (arith, w)) ∙ here _ _ k q)

  pub cells_byte : k < 2 → header_byte h (10 + k) ≡ byte_of h.cells k
  cells_byte q =
      let z : 10 + k ≡ 4 + (2 + (2 + (2 + (0 + k)))) = omega arith in
      rw z
      (rest (2 + (2 + (2 + (0 + k))))
      ∙ after _ _ (2 + (2 + (0 + k))) (omega (arith, w))
      ∙ after _ _ (2 + (0 + k)) (omega (arith, w))
      ∙ after _ _ (0 + k) (omega (arith, w))
      ∙ here _ _ k q)

  -- what stands behind the fields of two bytes
  last : (m : ℕ) → header_byte h (12 + m) ≡ byte_of (h.points + 2 ^ 32 * h.hours) m
  last m =
      let z : 12 + m ≡ 4 + (2 + (2 + (2 + (2 + m)))) = omega arith in
      rw z
      (rest (2 + (2 + (2 + (2 + m))))
      ∙ after _ _ (2 + (2 + (2 + m))) (omega (arith, w))
      ∙ after _ _ (2 + (2 + m)) (omega (arith, w))
      ∙ after _ _ (2 + m) (omega (arith, w))
      ∙ after _ _ m (omega (arith, w)))

  pub points_byte : k < 4 → header_byte h (12 + k) ≡ byte_of h.points k
  points_byte q = last k ∙ byte_of_low 4 h.points h.hours k q

  pub hours_byte : header_byte h (16 + k) ≡ byte_of h.hours k
  hours_byte =
      let z : 16 + k ≡ 12 + (4 + k) = omega arith in
      rw z (last (4 + k) ∙ byte_of_high 4 h.points h.hours k (omega (arith, w)))
