-- Where rules for ties part, on two graphs of four nodes, from node 0 to node 3 leaving at tick 0. In
-- `falling` the fewest arcs of all that arrive at 7 are 0 and 3, but they come to node 1 a tick late and win
-- it back; the chosen path is there in time. In `crossing` two paths tie, and they part by their last arcs.
use mathlib.Core.{Bool.cond, List.List, List.[], List.◌∷◌}
use Rattle.std.specs.Prelude.{ℕ}
use lib.{ListN.get_or, Dec.eqb, Dec.ltb}
use Rattle.theory_paths.specs.{Graph.Graph, Graph.all}
use Rattle.theory_paths.specs.Labels.{labels}
use Rattle.theory_paths.specs.Chosen.{chosen}

-- Arcs 0: 0 to 1, taking 3. 1: 0 to 2, and 2: 2 to 1, taking 1 each. 3: 1 to 3, taking 5 before tick 3, then
-- 4.
abbrev pub falling : Graph
falling = record {
  period = 10;
  nodes = 4;
  arcs = 4;
  tail = λ a. get_or (0 ∷ 0 ∷ 2 ∷ 1 ∷ []) a 0;
  head = λ a. get_or (1 ∷ 2 ∷ 1 ∷ 3 ∷ []) a 0;
  travel = λ a x. cond (eqb a 0) 3 (cond (eqb a 3) (cond (ltb x 3) 5 4) 1);
}

-- Arcs 0: 0 to 1. 1: 0 to 2. 2: 2 to 3. 3: 1 to 3. All take 1.
abbrev pub crossing : Graph
crossing = record {
  period = 10;
  nodes = 4;
  arcs = 4;
  tail = λ a. get_or (0 ∷ 0 ∷ 2 ∷ 1 ∷ []) a 0;
  head = λ a. get_or (1 ∷ 2 ∷ 3 ∷ 3 ∷ []) a 0;
  travel = λ a x. 1;
}

abbrev pub chosen_to3 : Graph → List ℕ
chosen_to3 g = chosen g all 0 (labels g all 0 0) 3
