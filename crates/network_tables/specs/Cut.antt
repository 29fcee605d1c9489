-- Tables that are as long as a header says (`Cut`) with their network (`whole`), and the tests of the rules
-- by the tables that they read. What the rules 9 and 10 say needs the points of the arcs alone (`bare`).
use mathlib.Core.{Path.◌≡◌, Path.sym, Path.◌∙◌, Path.ap, Bool.Bool, List.List, List.[]}
use Rattle.std.specs.Prelude.{ℕ, Result, ⊤}
use lib.{ListN.length, ListN.get_or, ListN.take, Seq.length-take-le, Dec.leb}
use Rattle.theory_loops.specs.{First.first, Total.total}
use Rattle.network.specs.declared.header.{Header.Header, Layout.Layout}
use Rattle.network.specs.{Layout.layout_of, Layout.LaidBlocks, Layout.layout_blocks, Rules.judged}
use Rattle.network.specs.{Network.Network, Network.nodes, Network.start, FirstPoint.Counted}
use Rattle.network.specs.Tables.{Tables, tables, network_of}
use Rattle.network.specs.Decode.{Sizes, Small, layout_small}
use Rattle.network.specs.Rules.{bad_cell, bad_hours, bad_hours_of, bad_ends, bad_arc, first_point, judged_points}
use Rattle.file_refusals.specs.declared.Refusal.{Refusal}
use Rattle.network_encode.specs.Packable.{Packable}

-- the network of a header and of whole tables
abbrev pub whole : Header → Tables → Network
whole h t = record {
  number = h.number;
  period = h.period;
  cells = h.cells;
  hours = h.hours;
  cell_of = t.cells;
  opens = t.opens;
  closes = t.closes;
  tails = t.tails;
  heads = t.heads;
  counts = t.counts;
  ticks = t.ticks;
  travels = t.travels;
}

-- a network of nothing but the points of arcs
abbrev pub bare : ℕ → List ℕ → List ℕ → List ℕ → Network
bare period counts ticks travels = record {
  number = 0;
  period = period;
  cells = 0;
  hours = 0;
  cell_of = [];
  opens = [];
  closes = [];
  tails = counts;
  heads = counts;
  counts = counts;
  ticks = ticks;
  travels = travels;
}

-- 7, 37 and 8 at an entry of the tables
abbrev pub bad_cell_in : ℕ → List ℕ → ℕ → Bool
bad_cell_in cells cell_of v = leb cells (get_or cell_of v 0)

abbrev pub bad_hours_in : ℕ → ℕ → List ℕ → List ℕ → ℕ → Bool
bad_hours_in hours period opens closes v = bad_hours hours period (get_or opens v 0) (get_or closes v 0)

abbrev pub bad_arc_in : ℕ → ℕ → List ℕ → List ℕ → List ℕ → ℕ → Bool
bad_arc_in nodes period tails heads counts a =
    bad_ends nodes period (get_or tails a 0) (get_or heads a 0) (get_or counts a 0)

-- by entries that code has read
pub cell_read : (cells : ℕ) (cell_of : List ℕ) (v : ℕ) {x : ℕ} → x ≡ get_or cell_of v 0
    → leb cells x ≡ bad_cell_in cells cell_of v
cell_read cells cell_of v e = rw e

pub hours_read : (hours period : ℕ) (opens closes : List ℕ) (v : ℕ) {x y : ℕ} {r : Bool} → x ≡ get_or opens v 0
    → y ≡ get_or closes v 0 → r ≡ bad_hours hours period x y → r ≡ bad_hours_in hours period opens closes v
hours_read hours period opens closes v e f g = rw (e, f) at g

pub arc_read : (nodes period : ℕ) (tails heads counts : List ℕ) (a : ℕ) {x y z : ℕ} {r : Bool}
    → x ≡ get_or tails a 0 → y ≡ get_or heads a 0 → z ≡ get_or counts a 0 → r ≡ bad_ends nodes period x y z
    → r ≡ bad_arc_in nodes period tails heads counts a
arc_read nodes period tails heads counts a e f g h = rw (e, f, g) at h

-- for `search reads` where code judges an entry
pub ruleset reads = (cell_read, hours_read, arc_read)

-- tables as long as a header within the limits says, whose layout is l
pub record Cut (h : Header) (l : Layout) (t : Tables) : Type 0 where
  pub sizes : Sizes (whole h t) l
  pub small : Small l
  pub opens_long : length t.opens ≡ l.nodes
  pub closes_long : length t.closes ≡ l.nodes
  pub heads_long : length t.heads ≡ l.arcs
  pub counts_long : length t.counts ≡ l.arcs
  pub travels_long : length t.travels ≡ l.points

-- FOR THE CODE: what is found in the tables is found in their network
module _ {h : Header} {l : Layout} {t : Tables} (c : Cut h l t) where
  pub cell_found : {v : ℕ} → v ≡ first (length t.cells) (bad_cell_in l.cells t.cells)
      → v ≡ first l.nodes (bad_cell (whole h t))
  cell_found e = rw (c.sizes.nodes, ← c.sizes.cells) e

  pub hours_found : {v : ℕ}
      → v ≡ first (length t.opens) (bad_hours_in l.hours l.period t.opens t.closes)
      → v ≡ first l.nodes (bad_hours_of (whole h t))
  hours_found e = rw (← c.opens_long, ← c.sizes.hours, ← c.sizes.period) e

  pub arc_found : {a : ℕ}
      → a ≡ first (length t.tails) (bad_arc_in l.nodes l.period t.tails t.heads t.counts)
      → a ≡ first l.arcs (bad_arc (whole h t))
  arc_found e = rw c.sizes.arcs (rw (c.sizes.nodes, c.sizes.period) at e)

  pub sum_found : {k : ℕ} → k ≡ total (length t.tails) (λ a. get_or t.counts a 0)
      → k ≡ start (whole h t) l.arcs
  unfolding start
  sum_found e = rw c.sizes.arcs e

  -- and the points are those of the arcs alone
  arcs_same : length t.counts ≡ length t.tails
  arcs_same = c.counts_long ∙ c.sizes.arcs

  pub counted_bare : Counted (whole h t) → Counted (bare l.period t.counts t.ticks t.travels)
  unfolding start
  counted_bare s = record { some = λ a m. s.some a (rw arcs_same at m); sum = rw arcs_same s.sum }

  pub points_judged : {r : Result ⊤ Refusal} → r ≡ judged_points (bare l.period t.counts t.ticks t.travels)
      → r ≡ judged_points (whole h t)
  unfolding judged_points first_point start
  points_judged e = rw (arcs_same, c.sizes.period) at e

-- lent tables, cut
abbrev pub cut_to : Layout → Tables → Tables
cut_to l t =
    tables (take l.nodes t.cells) (take l.nodes t.opens) (take l.nodes t.closes)
    (take l.arcs t.tails) (take l.arcs t.heads) (take l.arcs t.counts)
    (take l.points t.ticks) (take l.points t.travels)

module _ {h : Header} {l : Layout} {t : Tables} (p : Packable h l t) where
  period_is : l.period ≡ h.period
  unfolding layout_of
  period_is = ap (λ (k : Layout). k.period) p.is

  cells_are : l.cells ≡ h.cells
  unfolding layout_of
  cells_are = ap (λ (k : Layout). k.cells) p.is

  pub now_cut : Cut h l (cut_to l t)
  now_cut =
      let r = p.room in
      record {
        sizes = record {
          period = period_is;
          cells = cells_are;
          hours = (layout_blocks p.is).hours;
          nodes = sym (length-take-le l.nodes t.cells r.cells_room);
          arcs = sym (length-take-le l.arcs t.tails r.tails_room);
          points = sym (length-take-le l.points t.ticks r.ticks_room);
        };
        small = layout_small p.is p.within;
        opens_long = length-take-le l.nodes t.opens r.opens_room;
        closes_long = length-take-le l.nodes t.closes r.closes_room;
        heads_long = length-take-le l.arcs t.heads r.heads_room;
        counts_long = length-take-le l.arcs t.counts r.counts_room;
        travels_long = length-take-le l.points t.travels r.travels_room;
      }

  pub cut_judged : {r : Result ⊤ Refusal} → r ≡ judged (whole h (cut_to l t)) → r ≡ judged (network_of h t)
  cut_judged e =
      let q : LaidBlocks h l = layout_blocks p.is in
      rw (q.nodes, q.arcs, q.points) at e
