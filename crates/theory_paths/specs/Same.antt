-- The chosen path does not depend on the labels and hops by which it is found: it is the same by any exact
-- labels as far as both know (`chosen_same`), and by any hops of them (`chosen_traced`), so a search that
-- carries hops comes to it.
use mathlib.Core.{Path.◌≡◌, List.List}
use Prim.Native.Nat.{ℕ, min}
use Rattle.theory_paths.specs.{Graph.Graph, Graph.Permit, Labels.label}
use Rattle.theory_paths.specs.Chosen.{arc_into}

-- two walks back are one where, from every node known, both take the same arc to the same node, known again
abbrev pub SameStep : Graph → Graph → Permit → Permit → List ℕ → List ℕ → (ℕ → ℕ) → (ℕ → ℕ) → ℕ → Type 0
SameStep g h p q L M H K v =
    (arc_into g p L H v ≡ arc_into h q M K v) × (g.tail (arc_into g p L H v) ≡ h.tail (arc_into g p L H v))

-- The chosen path is the same by any labels that are the same at the target and below it, and by any hops of
-- theirs.
pub record SameUpto (L M : List ℕ) (t : ℕ) : Type 0 where
  pub at : label L t ≡ label M t
  pub below : (u : ℕ) → min (label L t) (label L u) ≡ min (label L t) (label M u)
