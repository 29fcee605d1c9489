-- The way back from a node by the arcs of the notes, as the code goes it: from each node by the arc of its
-- note to that arc's tail, as often as the first note counts. The laws are in the shape of the needs of the
-- loop that writes these arcs from the last to the first.
use mathlib.Core.{Path.◌≡◌, Path.sym, Path.◌∙◌, Path.ap, Bool.cond, List.List}
use Prim.Native.Nat.{ℕ, zero, suc, ◌-◌, ◌*◌, ◌≤◌, ◌<◌}
use native.Mathlib.{Nat.le_refl, Omega.arith}
use mir.{Val.Fits, Syntax.w64}
use lib.{ListN.length, ListN.set, Dec.ltb}
use Rattle.std.proofs.Common.{lt-ltb, le-ltb}
use Rattle.theory_loops.specs.Fill.{Filled, fill_none, fill_back, fill_start}
use Rattle.theory_paths.specs.Graph.{Graph}
use Rattle.network.specs.declared.header.Layout.{Layout}
use Rattle.network.specs.{Limits.most_nodes, Network.tail, Decode.decode, Town.graph_of}
use Rattle.search_chains.specs.Town.{Town, tail_node}
use Rattle.search_labels.specs.Notes.{hops_in, arc_in}

-- The node that is n arcs back from t by the notes K, and the arc by which it is entered.
unfoldable pub node_back : Graph → List ℕ → ℕ → ℕ → ℕ
node_back g K t zero = t
node_back g K t (suc n) = g.tail (arc_in K (node_back g K t n))

abbrev pub arc_back : Graph → List ℕ → ℕ → ℕ → ℕ
arc_back g K t n = arc_in K (node_back g K t n)

-- The arcs back from t as a path to it: of as many as its note counts the k-th.
abbrev pub road_to : Graph → List ℕ → ℕ → ℕ → ℕ
road_to g K t k = arc_back g K t (hops_in K t - 1 - k)

-- t is a node, and these are few, and arcs all.
pub record Trail (g : Graph) (K : List ℕ) (t : ℕ) : Type 0 where
  pub node : t < g.nodes
  pub few : hops_in K t < most_nodes
  pub arcs : (n : ℕ) → n < hops_in K t → arc_back g K t n < g.arcs

-- How many of `count` entries are written where there is room for `room`: all, or none.
abbrev pub fitting : ℕ → ℕ → ℕ
fitting count room = cond (ltb room count) 0 count

-- The roads are counted, and written where the list has room for them; nothing else changes.
pub record Listed (total : ℕ) (road : ℕ → ℕ) (roads₀ roads : List ℕ) (count : ℕ) : Type 0 where
  pub counts : count ≡ total
  pub writes : Filled 0 (fitting count (length roads₀)) road roads₀ roads

pub listed_short : (total : ℕ) (road : ℕ → ℕ) (roads₀ : List ℕ) (count : ℕ) → count ≡ total
    → length roads₀ < count → Listed total road roads₀ roads₀ count
listed_short total road roads₀ count e l = record {
  counts = e;
  writes = rw (lt-ltb (length roads₀) count l) (fill_none road roads₀ 0);
}

pub listed_way : (total : ℕ) (road : ℕ → ℕ) (roads₀ roads : List ℕ) (count : ℕ) → count ≡ total
    → count ≤ length roads₀ → Filled 0 count road roads₀ roads
    → Listed total road roads₀ roads count
listed_way total road roads₀ roads count e l f = record {
  counts = e;
  writes = rw (le-ltb (length roads₀) count l) f;
}

-- In the loop: it stands at v, and the list holds the arcs from place n on.
pub record Writing (file : List ℕ) (l : Layout) (K : List ℕ) (t count v n : ℕ) (old new : List ℕ) : Type 0
  where
    pub town : Town file l
    pub trail : Trail (graph_of (decode file)) K t
    pub total : count ≡ hops_in K t
    pub room : count ≤ length old
    pub within : n ≤ count
    pub at : v ≡ node_back (graph_of (decode file)) K t (count - n)
    pub node : v < l.nodes
    pub written : Filled n count (road_to (graph_of (decode file)) K t) old new

pub write_start : {file : List ℕ} {l : Layout} {K : List ℕ} {t m : ℕ} {old : List ℕ} → Town file l
    → Trail (graph_of (decode file)) K t → m ≡ hops_in K t
    → m ≤ length old → Writing file l K t m t m old old
unfolding node_back
write_start {file} {K = K} {t = t} {m = m} w f e h = record {
  town = w;
  trail = f;
  total = e;
  room = h;
  within = le_refl m;
  at = let z : m - m ≡ 0 = omega arith in rw z;
  node = omega (arith, f.node, w.sizes.nodes);
  written = fill_none _ _ m;
}

module _ {file : List ℕ} {l : Layout} {K : List ℕ} {t m v n : ℕ} {old new : List ℕ}
    (k : Writing file l K t m v n old new) where
  pub write_end : n ≤ 0 → Filled 0 m (road_to (graph_of (decode file)) K t) old new
  write_end h = fill_start _ old 0 n m new k.written h (omega arith)

  pub write_node : v < most_nodes
  write_node = omega (arith, k.node, k.town.small.nodes_most)

  module _ (h : 0 < n) where
    pub write_less : n - 1 < n
    write_less = omega arith

    pub write_place : n - 1 < length new
    write_place = omega (arith, k.within, k.room, k.written.long)

    pub write_scaled : Fits w64 ((n - 1) * 2)
    write_scaled = omega (arith, k.within, k.total, k.trail.few)

    module _ (a : ℕ) (e : a ≡ arc_in K v) where
      back : a ≡ arc_back (graph_of (decode file)) K t (m - n)
      back = e ∙ ap (arc_in K) k.at

      pub write_listed : a < l.arcs
      write_listed =
          omega (
            arith,
            back,
            k.trail.arcs (m - n) (omega (arith, k.within, k.total)),
            k.town.sizes.arcs,
          )

      pub write_more : (u : ℕ) → u ≡ tail (decode file) a
          → Writing file l K t m u (n - 1) old (set new (n - 1) a)
      unfolding node_back
      write_more u q =
          let g = graph_of (decode file) in
          let i : m - (n - 1) ≡ suc (m - n) = omega (arith, k.within) in
          let j : hops_in K t - 1 - (n - 1) ≡ m - n = omega (arith, k.total) in
          record {
            town = k.town;
            trail = k.trail;
            total = k.total;
            room = k.room;
            within = omega (arith, k.within);
            at = q ∙ rw (i, back);
            node = tail_node k.town a u write_listed q;
            written = fill_back (road_to g K t) old n m a new k.written h k.within k.room
                (back ∙ ap (arc_back g K t) (sym j));
          }

-- for `search writes` at the needs of the loop
pub ruleset writes =
    (write_start, write_end, write_node, write_less, write_place, write_scaled, write_listed, write_more)
