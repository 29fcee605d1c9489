-- The pigeonhole: distinct numbers below n are at most n. So a path of n arcs or more visits a node twice,
-- and every path has one of fewer than n arcs, with its cycles cut out, that ends no later.
use mathlib.Core.{Logic.◌≢◌}
use Rattle.std.specs.Prelude.{List, [], ◌∷◌, ℕ, ◌≤◌, ◌<◌, length}
use Rattle.theory_paths.specs.Graph.{Graph, Permit, IsPath, driven}

infix 20 ◌∉◌
abbrev pub ◌∉◌ : ℕ → List ℕ → Type 0
v ∉ [] = Unit {0}
v ∉ (u ∷ l) = (v ≢ u) × (v ∉ l)

abbrev pub Distinct : List ℕ → Type 0
Distinct [] = Unit {0}
Distinct (u ∷ l) = (u ∉ l) × Distinct l

abbrev pub Below : ℕ → List ℕ → Type 0
Below n [] = Unit {0}
Below n (u ∷ l) = (u < n) × Below n l

-- the nodes that a path visits
abbrev pub visits : Graph → ℕ → List ℕ → List ℕ
visits g s [] = s ∷ []
visits g s (a ∷ w) = s ∷ visits g (g.head a) w

-- A permitted path of fewer arcs than there are nodes that, driven from x, ends at b or before.
pub record Short (g : Graph) (p : Permit) (s t x b : ℕ) : Type 0 where
  pub path : List ℕ
  pub leads : IsPath g p s t path
  pub short : length path < g.nodes
  pub no_later : driven g path x ≤ b
