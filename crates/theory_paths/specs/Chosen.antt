-- The chosen path: back from the target, at each node by the lowest arc that is tight and comes from a node
-- with one hop less. From exact labels it is the way of document 02 (`IsChosen`, `chosen_is`), of which there
-- is one (`chosen_unique`); driven from x it ends at the target's label, with fewer arcs than there are nodes
-- (`chosen_path`), and it is empty exactly where source and target are the same (`chosen_empty`).
use Rattle.std.specs.Prelude.{◌≡◌, Bool, false, cond, ◌&&◌}
use mathlib.Core.List.{List, [], ◌∷◌, ◌++◌}
use Prim.Native.Nat.{ℕ, zero, suc, ◌+◌, ◌≤◌, ◌<◌}
use lib.{Dec.eqb, ListN.length}
use Rattle.theory_paths.specs.Graph.{Graph, ends, Permit, IsPath, driven, EarliestArrival}
use Rattle.theory_paths.specs.{Labels.label}
use Rattle.theory_paths.specs.Hops.{tight, hops}

-- Arc a is a last one of fewest to v (`Last`), as a test: it is tight, leads to v, and its tail has one hop
-- less.
abbrev pub explains : Graph → Permit → List ℕ → (ℕ → ℕ) → ℕ → ℕ → Bool
explains g p L H v a = tight g p L a && (eqb (g.head a) v && eqb (H (g.tail a) + 1) (H v))

-- The lowest of the k numbers from i on that passes the test.
unfoldable pub lowest : (ℕ → Bool) → ℕ → ℕ → ℕ
lowest test i zero = i
lowest test i (suc k) = let r = lowest test (suc i) k in cond (test i) i r

-- The arc by which the path comes to v: the lowest of these.
abbrev pub arc_into : Graph → Permit → List ℕ → (ℕ → ℕ) → ℕ → ℕ
arc_into g p L H v = lowest (explains g p L H v) 0 g.arcs

-- Going back from v to s, by at most k arcs; w is the path from v on.
unfoldable pub back : Graph → Permit → ℕ → List ℕ → (ℕ → ℕ) → ℕ → ℕ → List ℕ → List ℕ
back g p s L H zero v w = w
back g p s L H (suc k) v w =
    let a = arc_into g p L H v in
    let r = back g p s L H k (g.tail a) (a ∷ w) in
    cond (eqb v s) w r

-- Going back from t by the labels L and the hops H; and the chosen path, by the labels alone.
unfoldable pub traced : Graph → Permit → ℕ → List ℕ → (ℕ → ℕ) → ℕ → List ℕ
traced g p s L H t = back g p s L H g.nodes t []

unfoldable pub chosen : Graph → Permit → ℕ → List ℕ → ℕ → List ℕ
chosen g p s L t = traced g p s L (label (hops g p s L)) t

-- Driven from tick y, the list of arcs out of u reaches each of its nodes at its earliest arrival, over
-- permitted paths from s that leave at tick x.
abbrev pub TightPath : Graph → Permit → ℕ → ℕ → ℕ → ℕ → List ℕ → Type 0
TightPath g p s x u y [] = EarliestArrival g p s x u y
TightPath g p s x u y (a ∷ w) = EarliestArrival g p s x u y × TightPath g p s x (g.head a) (ends g a y) w

-- Each arc of the list is the lowest into its head: none below it passes the test.
abbrev pub EachLowest : Graph → Permit → List ℕ → (ℕ → ℕ) → List ℕ → Type 0
EachLowest g p L H [] = Unit {0}
EachLowest g p L H (a ∷ w) = ((b : ℕ) → b < a → explains g p L H (g.head a) b ≡ false) × EachLowest g p L H w

-- The path comes by arc a to its end w.
abbrev pub EndsWith : ℕ → List ℕ → List ℕ → Type 0
EndsWith a w path = (v : List ℕ) × (path ≡ v ++ a ∷ w)

-- The way of document 02 from s to t, leaving at tick x: a permitted path that reaches each of its nodes at
-- its earliest arrival; with the fewest arcs of all that do; and of these, back from the target, by the
-- lowest arc: none that ends alike comes to that end by a lower one.
pub record IsChosen (g : Graph) (p : Permit) (s x t : ℕ) (path : List ℕ) : Type 0 where
  pub leads : IsPath g p s t path
  pub tight : TightPath g p s x s x path
  pub fewest : (w : List ℕ) → IsPath g p s t w → TightPath g p s x s x w → length path ≤ length w
  pub lowest : (w : List ℕ) → IsPath g p s t w → TightPath g p s x s x w → length w ≡ length path
      → (a b : ℕ) (end : List ℕ) → EndsWith a end path → EndsWith b end w → a ≤ b

-- w is a permitted path from s to t of at most k arcs that, driven from x, ends at b.
pub record Found (g : Graph) (p : Permit) (s x t b k : ℕ) (w : List ℕ) : Type 0 where
  pub leads : IsPath g p s t w
  pub at : driven g w x ≡ b
  pub short : length w ≤ k

-- w is a path over tight arcs from s to t with n arcs, and none has fewer.
pub record Fewest (g : Graph) (p : Permit) (L : List ℕ) (s t n : ℕ) (w : List ℕ) : Type 0 where
  pub leads : IsPath g (tight g p L) s t w
  pub count : length w ≡ n
  pub least : (v : List ℕ) → IsPath g (tight g p L) s t v → n ≤ length v
