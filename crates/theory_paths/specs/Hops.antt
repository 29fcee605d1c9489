-- How few arcs lead to a node at its label. An arc is tight when, taken at its tail's label, it ends at its
-- head's: by exact labels a path over tight arcs reaches each of its nodes at its earliest arrival
-- (`tight_driven`). A node's hops are the fewest arcs of such paths: the labels of the graph in which every
-- arc takes one tick. `Counted` says of each node what they are by its arcs alone, and `hops_counted` that
-- they are so.
use mathlib.Core.{Path.◌≡◌, List.List}
use Rattle.std.specs.Prelude.{◌≢◌, true, ◌&&◌, ℕ, ◌+◌, ◌≤◌, ◌<◌}
use lib.{Dec.eqb, Dec.ltb}
use Rattle.theory_paths.specs.Graph.{Graph, ends, Permit, ArcFrom, IsPath, driven}
use Rattle.theory_paths.specs.Earliest.{never}
use Rattle.theory_paths.specs.Labels.{label, offer, labels}

-- Arc a is tight: it is permitted, its tail has a label, and taken at that label it ends at its head's.
abbrev pub tight : Graph → Permit → List ℕ → Permit
tight g p L a = p a && (ltb (label L (g.tail a)) never && eqb (offer g L a) (label L (g.head a)))

-- The graph in which every arc takes one tick: a path takes as many ticks as it has arcs.
abbrev pub counting : Graph → Graph
counting g = record {
  period = 1;
  nodes = g.nodes;
  arcs = g.arcs;
  tail = g.tail;
  head = g.head;
  travel = λ a x. 1;
}

-- The fewest arcs of a path over tight arcs from s, for each node; `label` reads them.
unfoldable pub hops : Graph → Permit → ℕ → List ℕ → List ℕ
hops g p s L = labels (counting g) (tight g p L) s 0

-- v's label is known, and is one of those up to B.
pub record Known (g : Graph) (L : List ℕ) (B v : ℕ) : Type 0 where
  pub node : v < g.nodes
  pub upto : label L v ≤ B
  pub known : label L v < never

-- what it is to be tight
pub record Tight (g : Graph) (p : Permit) (L : List ℕ) (a : ℕ) : Type 0 where
  pub listed : a < g.arcs
  pub permitted : p a ≡ true
  pub known : label L (g.tail a) < never
  pub at : offer g L a ≡ label L (g.head a)

-- Arc a is a last one of fewest to v: it is tight, leads to v, and its tail has one hop less.
pub record Last (g : Graph) (p : Permit) (L : List ℕ) (H : ℕ → ℕ) (v a : ℕ) : Type 0 where
  pub tight : Tight g p L a
  pub enters : g.head a ≡ v
  pub fewer : H (g.tail a) + 1 ≡ H v

-- H has the hops of the nodes with a label up to B: none at the source, at any other node one more than at
-- the tail of some tight arc into it, and nowhere more than one more than at the tail of a tight arc.
pub record Counted (g : Graph) (p : Permit) (s : ℕ) (L : List ℕ) (H : ℕ → ℕ) (B : ℕ) : Type 0 where
  pub source : H s ≡ 0
  pub last : (v : ℕ) → v ≢ s → Known g L B v → (a : ℕ) × Last g p L H v a
  pub least : (a : ℕ) → Tight g p L a → Known g L B (g.head a) → H (g.head a) ≤ H (g.tail a) + 1

-- the last arc of a path
pub record LastArc (g : Graph) (p : Permit) (s t x b : ℕ) : Type 0 where
  pub arc : ℕ
  pub last : ArcFrom g p (g.tail arc) arc
  pub enters : g.head arc ≡ t
  pub before : List ℕ
  pub leads : IsPath g p s (g.tail arc) before
  pub at : ends g arc (driven g before x) ≡ b
