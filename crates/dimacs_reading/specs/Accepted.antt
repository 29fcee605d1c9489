-- The texts that are accepted, in the wish's words: remarks anywhere, one `p` line before every `a` line, as
-- many `a` lines as it says, and sizes, ends and weights that a network may hold.
use mathlib.Core.{Path.◌≡◌, Logic.◌≢◌, List.List, List.[], List.◌∷◌}
use Rattle.std.specs.Prelude.{ℕ, ◌≤◌, length}
use Rattle.network.specs.Limits.{most_nodes, most_arcs, most_period}
use Rattle.dimacs_line.specs.declared.line.{Sizes.Sizes, Arc.Arc}
use Rattle.dimacs_line.specs.Shape.{IsRemark, IsSizes, IsArc}

-- sizes within the limits
pub record SizesWithin (k : Sizes) : Type 0 where
  pub some : 1 ≤ k.nodes
  pub nodes_few : k.nodes ≤ most_nodes
  pub arcs_few : k.arcs ≤ most_arcs

-- an arc between two of the nodes, which are numbered from 1 on, with a weight that is a travel
pub record Fitting (nodes : ℕ) (a : Arc) : Type 0 where
  pub apart : a.tail ≢ a.head
  pub tail_first : 1 ≤ a.tail
  pub tail_last : a.tail ≤ nodes
  pub head_first : 1 ≤ a.head
  pub head_last : a.head ≤ nodes
  pub weight_least : 1 ≤ a.weight
  pub weight_most : a.weight ≤ most_period

-- lines after the `p` line: remarks, and these arcs in their order
pub data ArcLines (nodes : ℕ) : List (List ℕ) → List Arc → Type 0 where
  none : ArcLines nodes [] []
  remark : (line : List ℕ) (lines : List (List ℕ)) (arcs : List Arc) → IsRemark line
      → ArcLines nodes lines arcs → ArcLines nodes (line ∷ lines) arcs
  arc : (line : List ℕ) (a : Arc) (lines : List (List ℕ)) (arcs : List Arc) → IsArc line a → Fitting nodes a
      → ArcLines nodes lines arcs → ArcLines nodes (line ∷ lines) (a ∷ arcs)

-- a whole text: remarks, the `p` line, and as many arcs as it says
pub data RoadText (k : Sizes) : List (List ℕ) → List Arc → Type 0 where
  remark_first : (line : List ℕ) (lines : List (List ℕ)) (arcs : List Arc) → IsRemark line
      → RoadText k lines arcs → RoadText k (line ∷ lines) arcs
  sizes : (line : List ℕ) (lines : List (List ℕ)) (arcs : List Arc) → IsSizes line k → SizesWithin k
      → ArcLines k.nodes lines arcs → length arcs ≡ k.arcs → RoadText k (line ∷ lines) arcs
