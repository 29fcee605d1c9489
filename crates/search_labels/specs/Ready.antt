-- What every function of a search rests on: a town, the mask of permitted arcs and the tables of the arcs'
-- heads and first points (`Ready`); and a graph that is left within the first period, so that no label is
-- late (`Leaving`).
use mathlib.Core.{Path.◌≡◌, List.List}
use Rattle.std.specs.Prelude.{ℕ, ◌≤◌, ◌<◌}
use native.Mathlib.{Nat.mul-le-mul, Omega.arith}
use lib.{ListN.length, ListN.get_or, Dec.eqb}
use Rattle.theory_paths.specs.Graph.{Graph, Lawful, Bounded, Permit}
use Rattle.network.specs.declared.header.Layout.{Layout}
use Rattle.network.specs.{Limits.most_period, Limits.most_nodes, Limits.most_arcs, Network.head, Network.start}
use Rattle.network.specs.{Decode.decode, Town.graph_of, Town.town_bounded}
use Rattle.search_chains.specs.{Town.Town, Town.lawful, Town.head_node, Tables.Tabled}
use Rattle.search_arcs.specs.Times.{NextStart, next_start}
use Rattle.search_frontier.specs.{Settle.latest, Frontier.last_label}

-- Arc a is permitted: its entry in the mask is 1.
abbrev pub permit_of : List ℕ → Permit
permit_of mask a = eqb (get_or mask a 0) 1

-- A town, with a mask for its arcs and tables of their heads and first points.
pub record Ready (file : List ℕ) (l : Layout) (mask heads starts : List ℕ) : Type 0 where
  pub town : Town file l
  pub masked : l.arcs ≤ length mask
  pub head_at : (a : ℕ) → a < l.arcs → get_or heads a 0 ≡ head (decode file) a
  pub first : (a : ℕ) → a < l.arcs → get_or starts a 0 ≡ start (decode file) a

-- s is left at tick x, in a lawful graph with few nodes and arcs, and early enough for its longest travel
-- that no label is late.
pub record Leaving (g : Graph) (s x : ℕ) : Type 0 where
  pub ok : Lawful g
  pub most : ℕ
  pub bounded : Bounded g most
  pub few : g.nodes ≤ most_nodes
  pub few_arcs : g.arcs ≤ most_arcs
  pub node : s < g.nodes
  pub early : latest g most x ≤ last_label

pub ready_of : {file : List ℕ} {l : Layout} {mask heads starts : List ℕ} → Town file l
    → l.arcs ≤ length mask → Tabled (decode file) l.arcs 0 heads starts → Ready file l mask heads starts
ready_of t m f = record {
  town = t;
  masked = m;
  head_at = λ a h. f.head_at a (omega arith) h;
  first = λ a h. f.start_at a (omega arith) h;
}

pub leaving : {file : List ℕ} {l : Layout} (t : Town file l) {s x : ℕ} → s < l.nodes → x < l.period
    → Leaving (graph_of (decode file)) s x
leaving {file} t h k = record {
  ok = lawful t;
  most = (decode file).period;
  bounded = town_bounded t.sound;
  few = omega (arith, t.sizes.nodes, t.small.nodes_most);
  few_arcs = omega (arith, t.sizes.arcs, t.small.arcs_most);
  node = omega (arith, t.sizes.nodes);
  early =
      let n : (graph_of (decode file)).nodes ≤ most_nodes =
      omega (arith, t.sizes.nodes, t.small.nodes_most) in
      let p : (decode file).period ≤ most_period = omega (arith, t.sizes.period, t.small.period_most) in
      omega (arith, mul-le-mul n p, t.small.period_most);
}

-- of an arc's entry in the table of first points
pub first_read : {file : List ℕ} {l : Layout} {mask heads starts : List ℕ} → Ready file l mask heads starts
    → (a : ℕ) → a < l.arcs → get_or starts a 0 ≡ start (decode file) a
first_read w = w.first

pub next_read : {file : List ℕ} {l : Layout} {mask heads starts : List ℕ} → Ready file l mask heads starts
    → (a : ℕ) → NextStart (decode file) l.arcs starts a
next_read w = next_start w.first

-- of a node's place in the labels
pub node_label : (l : Layout) (L : List ℕ) (v : ℕ) → length L ≡ l.nodes → v < l.nodes → v < length L
node_label l L v e h = omega arith

-- for `search (ready_reads, needs)` where code has read the file
pub ruleset ready_reads = (head_node, first_read, next_read, node_label)
