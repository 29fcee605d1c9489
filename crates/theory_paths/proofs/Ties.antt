-- Where rules for ties part, on two graphs of four nodes, from node 0 to node 3 leaving at tick 0. In
-- `falling` the fewest arcs of all that arrive at 7 are 0 and 3, but they come to node 1 a tick late and win
-- it back; the chosen path is there in time. In `crossing` two paths tie, and they part by their last arcs.
use mathlib.Core.{Path.◌≡◌, Path.refl, List.[], List.◌∷◌}
use Rattle.theory_paths.specs.{Graph.ends, Graph.driven, Hops.hops}
use Rattle.theory_paths.specs.Labels.{relaxed, rounds, labels}
use Rattle.theory_paths.specs.Chosen.{lowest, back, traced, chosen}
use Rattle.theory_paths.specs.Ties.{falling, crossing, chosen_to3}

pub ties : (chosen_to3 falling ≡ 1 ∷ 2 ∷ 3 ∷ [])
    × (driven falling (1 ∷ 2 ∷ 3 ∷ []) 0 ≡ 7)
    × (driven falling (0 ∷ 3 ∷ []) 0 ≡ 7)
    × (chosen_to3 crossing ≡ 1 ∷ 2 ∷ [])
    × (driven crossing (1 ∷ 2 ∷ []) 0 ≡ 2)
    × (driven crossing (0 ∷ 3 ∷ []) 0 ≡ 2)
unfolding ends relaxed rounds labels hops lowest back traced chosen
ties = (refl, refl, refl, refl, refl, refl)
