-- Opening a network: the answer, what becomes of the eight lent tables, and the call (`OpenCall`). The tables
-- are written only where the file opens, and then in their first entries alone, which become the network's.
use mathlib.Core.{Path.◌≡◌, Path.sym, Path.◌∙◌, List.List}
use Rattle.file_refusals.specs.Refusal.{refused}
use Rattle.std.specs.Prelude.{Bool, false, cond, ◌||◌, ℕ, ◌≤◌, Result, Ok, Err}
use lib.{ListN.length, Dec.ltb}
use Rattle.std.proofs.Common.{ltb-false}
use Rattle.theory_loops.specs.Pick.{or_passed}
use Rattle.theory_loops.specs.Fill.{Filled, filled_list, fill_within, overwritten, tab, length_tab}
use Rattle.file_blocks.specs.Kind.{hours_size, hours_per, arc_size, arc_per, point_size, point_per}
use Rattle.file_blocks.specs.Table.{entry16}
use Rattle.file_refusals.specs.declared.Refusal.{Refusal}
use Rattle.network.specs.declared.header.{Header.Header, Layout.Layout}
use Rattle.network.specs.{Limits.WithinLimits, Layout.layout_of, Network.Network, Tables.Tables, Tables.each}
use Rattle.network.specs.{Node.node_size, Node.node_per, Decode.opens_there, Decode.closes_there}
use Rattle.network.specs.Decode.{header_at, decode, Laid, laid_blocks, laid_sizes, opens_plain, closes_plain}
use Rattle.network.specs.Validate.{validated}
use Rattle.network.specs.Valid.{ValidFile}
use Rattle.network.proofs.Valid.{valid_laid, valid_exactly}

-- 30: a table has no room for all nodes, arcs or points; by the lengths of the eight, and of the tables
-- themselves
unfoldable pub too_short_by : Header → ℕ → ℕ → ℕ → ℕ → ℕ → ℕ → ℕ → ℕ → Bool
too_short_by h cells opens closes tails heads counts ticks travels =
    ltb cells h.nodes || (ltb opens h.nodes || (ltb closes h.nodes
    || (ltb tails h.arcs
    || (ltb heads h.arcs || (ltb counts h.arcs
    || (ltb ticks h.points || ltb travels h.points))))))

abbrev pub too_short : Header → Tables → Bool
too_short h t =
    too_short_by h (length t.cells) (length t.opens) (length t.closes) (length t.tails)
    (length t.heads) (length t.counts) (length t.ticks) (length t.travels)

-- the answer for lent tables, short or not, after validation
abbrev pub opened_in : Result Header Refusal → (Header → Bool) → Result Header Refusal
opened_in (Err r) short = Err r
opened_in (Ok h) short = cond (short h) (refused 30 0) (Ok h)

-- Open's answer by the file's bytes and the lent tables
abbrev pub opening : List ℕ → Tables → Result Header Refusal
opening file t = opened_in (validated file) (λ h. too_short h t)

-- a table at exit by the answer, and all eight
abbrev pub table_after : Result Header Refusal → List ℕ → List ℕ → List ℕ
table_after (Ok h) values old = overwritten values old
table_after (Err r) values old = old

abbrev pub tables_after : Result Header Refusal → Network → Tables → Tables
tables_after r = each (table_after r)

-- THE CALL: what Open answers for a file and lent tables, and the tables that it leaves
pub record OpenCall (file : List ℕ) (before after : Tables) (r : Result Header Refusal) : Type 0 where
  pub answer : r ≡ opening file before
  pub written : after ≡ tables_after r (decode file) before

-- tables that are not too short have room
pub record Room (l : Layout) (t : Tables) : Type 0 where
  pub cells_room : l.nodes ≤ length t.cells
  pub opens_room : l.nodes ≤ length t.opens
  pub closes_room : l.nodes ≤ length t.closes
  pub tails_room : l.arcs ≤ length t.tails
  pub heads_room : l.arcs ≤ length t.heads
  pub counts_room : l.arcs ≤ length t.counts
  pub ticks_room : l.points ≤ length t.ticks
  pub travels_room : l.points ≤ length t.travels

pub open_room : (h : Header) (l : Layout) (t : Tables) (y : Bool) → y ≡ too_short h t → y ≡ false
    → l ≡ layout_of h → Room l t
unfolding too_short_by layout_of
open_room h l t y e f g =
    let (a, e₅) = or_passed _ _ (sym e ∙ f) in
    let (o, e₆) = or_passed _ _ e₅ in
    let (k, e₁) = or_passed _ _ e₆ in
    let (b, e₂) = or_passed _ _ e₁ in
    let (c, e₃) = or_passed _ _ e₂ in
    let (d, e₄) = or_passed _ _ e₃ in
    let (i, j) = or_passed _ _ e₄ in
    rw g (record {
      cells_room = ltb-false _ _ a;
      opens_room = ltb-false _ _ o;
      closes_room = ltb-false _ _ k;
      tails_room = ltb-false _ _ b;
      heads_room = ltb-false _ _ c;
      counts_room = ltb-false _ _ d;
      ticks_room = ltb-false _ _ i;
      travels_room = ltb-false _ _ j;
    })

-- FOR CODE that has written a table's first entries: they are the network's
module _ {file : List ℕ} {l : Layout} (s : Laid file l) (old new : List ℕ) where
  table_is : (n : ℕ) (f : ℕ → ℕ) → n ≤ length old → Filled 0 n f old new → new ≡ overwritten (tab n f) old
  table_is n f h w = rw length_tab (filled_list f n old new h w)

  pub cells_told : (per size : ℕ) → per ≡ node_per l.hours → size ≡ node_size l.hours
      → Filled 0 l.nodes (entry16 file 1 per size 0) old new → l.nodes ≤ length old
      → new ≡ overwritten (decode file).cell_of old
  unfolding decode
  cells_told per size e f w h =
      let q = laid_blocks s in
      table_is _ _ (rw q.nodes at h) (rw (e, f, q.nodes, q.hours) at w)

  -- a table of nodes whose entries are these
  node_table : (f g : ℕ → ℕ) → ((v : ℕ) → f v ≡ g v) → Filled 0 l.nodes f old new → l.nodes ≤ length old
      → new ≡ overwritten (tab (header_at file).nodes g) old
  node_table f g e w h =
      let q = laid_blocks s in
      table_is _ g (rw q.nodes at h)
      (rw q.nodes at (fill_within f g 0 l.nodes old new (λ v a b. e v) w))

  module _ (z : l.hours ≡ 0) where
    none : (header_at file).hours ≡ 0
    none = sym (laid_blocks s).hours ∙ z

    pub opens_all_told : Filled 0 l.nodes (λ _. 0) old new → l.nodes ≤ length old
        → new ≡ overwritten (decode file).opens old
    unfolding decode
    opens_all_told w h = node_table _ _ (λ v. opens_plain (header_at file).hours file v none) w h

    pub closes_all_told : Filled 0 l.nodes (λ _. l.period) old new → l.nodes ≤ length old
        → new ≡ overwritten (decode file).closes old
    unfolding decode
    closes_all_told w h = node_table _ _
        (λ v. (laid_sizes s).period ∙ closes_plain (header_at file).hours (header_at file).period file v none)
        w h

  module _ (z : l.hours ≡ 0 → ⊥) where
    held : (header_at file).hours ≡ 0 → ⊥
    held e = z ((laid_blocks s).hours ∙ e)

    pub opens_told : Filled 0 l.nodes (entry16 file 1 hours_per hours_size 2) old new → l.nodes ≤ length old
        → new ≡ overwritten (decode file).opens old
    unfolding decode
    opens_told w h = node_table _ _ (λ v. opens_there (header_at file).hours file v held) w h

    pub closes_told : Filled 0 l.nodes (entry16 file 1 hours_per hours_size 4) old new
        → l.nodes ≤ length old → new ≡ overwritten (decode file).closes old
    unfolding decode
    closes_told w h = node_table _ _
        (λ v. closes_there (header_at file).hours (header_at file).period file v held) w h

  pub tails_told : Filled 0 l.arcs (entry16 file l.arcblock arc_per arc_size 0) old new
      → l.arcs ≤ length old → new ≡ overwritten (decode file).tails old
  unfolding decode
  tails_told w h = let q = laid_blocks s in table_is _ _ (rw q.arcs at h) (rw (q.arcs, q.arcblock) at w)

  pub heads_told : Filled 0 l.arcs (entry16 file l.arcblock arc_per arc_size 2) old new
      → l.arcs ≤ length old → new ≡ overwritten (decode file).heads old
  unfolding decode
  heads_told w h = let q = laid_blocks s in table_is _ _ (rw q.arcs at h) (rw (q.arcs, q.arcblock) at w)

  pub counts_told : Filled 0 l.arcs (entry16 file l.arcblock arc_per arc_size 4) old new
      → l.arcs ≤ length old → new ≡ overwritten (decode file).counts old
  unfolding decode
  counts_told w h = let q = laid_blocks s in table_is _ _ (rw q.arcs at h) (rw (q.arcs, q.arcblock) at w)

  pub ticks_told : Filled 0 l.points (entry16 file l.pointblock point_per point_size 0) old new
      → l.points ≤ length old → new ≡ overwritten (decode file).ticks old
  unfolding decode
  ticks_told w h =
      let q = laid_blocks s in
      table_is _ _ (rw q.points at h) (rw (q.points, q.pointblock) at w)

  pub travels_told : Filled 0 l.points (entry16 file l.pointblock point_per point_size 2) old new
      → l.points ≤ length old → new ≡ overwritten (decode file).travels old
  unfolding decode
  travels_told w h =
      let q = laid_blocks s in
      table_is _ _ (rw q.points at h) (rw (q.points, q.pointblock) at w)

-- for `search table_writes` where a table is written
pub ruleset table_writes = (
  cells_told,
  opens_all_told,
  closes_all_told,
  opens_told,
  closes_told,
  tails_told,
  heads_told,
  counts_told,
  ticks_told,
  travels_told,
)

-- FOR OPEN ITSELF, which has validated the file
module _ (file : List ℕ) (v : Result Header Refusal) (e : v ≡ validated file) (h : Header)
    (f : v ≡ Ok h) where
  open_valid : ValidFile file h
  open_valid = (valid_exactly file h).0 (sym e ∙ f)

  pub open_within : WithinLimits h
  open_within = open_valid.within

  pub open_laid : (l : Layout) → l ≡ layout_of h → Laid file l
  open_laid l g = rw g (valid_laid open_valid)
