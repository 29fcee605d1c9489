-- The borders of a graph with cells: the nodes with an arc into them from another cell, by rising number.
use mathlib.Core.{Path.◌≡◌, Bool.Bool, Bool.not, Bool.◌&&◌, List.List}
use Rattle.std.specs.Prelude.{ℕ, ◌<◌}
use lib.{ListN.length, ListN.get_or, Dec.eqb}
use Rattle.theory_loops.specs.{First.any, Select.select}
use Rattle.theory_paths.specs.Partition.{Partition}

-- the cells that arc a leads from and to
abbrev pub tail_cell : Partition → ℕ → ℕ
tail_cell G a = G.cell (G.graph.tail a)

abbrev pub head_cell : Partition → ℕ → ℕ
head_cell G a = G.cell (G.graph.head a)

unfoldable pub is_border : Partition → ℕ → Bool
is_border G v = any G.graph.arcs (λ a. eqb (G.graph.head a) v && not (eqb (tail_cell G a) (G.cell v)))

unfoldable pub borders : Partition → List ℕ
borders G = select G.graph.nodes (is_border G)

-- how many there are; border number i; and the number of border b, the count of borders before it
abbrev pub border_count : Partition → ℕ
border_count G = length (borders G)

abbrev pub border_at : Partition → ℕ → ℕ
border_at G i = get_or (borders G) i 0

unfoldable pub border_index : Partition → ℕ → ℕ
border_index G b = length (select b (is_border G))

-- A list that has them: border number i stands at place i.
pub record Listed (G : Partition) (list : List ℕ) : Type 0 where
  pub at : (i : ℕ) → i < border_count G → get_or list i 0 ≡ border_at G i
