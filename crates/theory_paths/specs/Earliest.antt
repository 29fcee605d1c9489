-- The earliest arrival is unique (`earliest_unique`), and labels that are sound and closed below a bound are
-- the earliest arrivals up to that bound (`closed_exact`). This is all that a search such as Dijkstra's,
-- stopped early at its target or not, has to show.
use mathlib.Core.{Path.◌≡◌, List.List}
use Rattle.std.specs.Prelude.{ℕ, ◌≤◌, ◌<◌}
use Rattle.theory_paths.specs.Graph.{Graph, ends, Permit, ArcFrom, IsPath, driven, Arrival, EarliestArrival}

-- The label of a node to which no arrival is known.
abbrev pub never : ℕ
never = 4294967295

-- L has a label for each node, for paths from s driven from tick x. Up to B it has the earliest arrivals: a
-- label up to B is one, and a node with a path that ends before B has no later label.
pub record Exact (g : Graph) (p : Permit) (s x : ℕ) (L : ℕ → ℕ) (B : ℕ) : Type 0 where
  pub source : L s ≡ x
  pub earliest : (t : ℕ) → L t ≤ B → L t < never → EarliestArrival g p s x t (L t)
  pub least : (t : ℕ) (w : List ℕ) → IsPath g p s t w → driven g w x < B → L t ≤ driven g w x

-- What a search keeps: every label is an arrival, and no permitted arc out of a node with a label below B
-- ends before its head's label.
pub record Closed (g : Graph) (p : Permit) (s x : ℕ) (L : ℕ → ℕ) (B : ℕ) : Type 0 where
  pub source : L s ≤ x
  pub sound : (v : ℕ) → L v < never → Arrival g p s x v (L v)
  pub closed : (u a : ℕ) → ArcFrom g p u a → L u < B → L (g.head a) ≤ ends g a (L u)
