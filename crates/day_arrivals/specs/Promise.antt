-- What the sheet for the whole day promises, a sentence of wish 7 each, of any call that meets its contract.
-- Where it lists, each entry is the earliest arrival at that tick (`sheet_listed`): the plain trip's
-- (`sheet_plain`), and the flagged trip's under an accepted plan (`sheet_flagged`).
use mathlib.Core.{Path.◌≡◌}
use mathlib.Core.{List.List}
use Rattle.std.specs.Prelude.{ℕ, ◌≤◌, ◌<◌, Result, Ok}
use lib.{ListN.length, ListN.get_or}
use Rattle.theory_paths.specs.Graph.{all, EarliestArrival}
use Rattle.network.specs.{Decode.decode, Town.graph_of}
use Rattle.file_refusals.specs.declared.Refusal.{Refusal}
use Rattle.search_path.specs.declared.answer.{Arrival.Arrival}

-- A trip arrives at this tick.
pub record ArrivesAt (a : Result Arrival Refusal) (tick : ℕ) : Type 0 where
  pub arrival : Arrival
  pub is : a ≡ Ok arrival
  pub at : arrival.tick ≡ tick

-- A list holds, for every tick of a network's day, the earliest arrival of who leaves then, over all ways;
-- behind them it is as it was.
pub record HoldsDay (network : List ℕ) (from to : ℕ) (list₀ list₁ : List ℕ) : Type 0 where
  pub earliest : (t : ℕ) → t < (decode network).period
      → EarliestArrival (graph_of (decode network)) all from t to (get_or list₁ t 0)
  pub others : (t : ℕ) → (decode network).period ≤ t → get_or list₁ t 0 ≡ get_or list₀ t 0
  pub long : length list₁ ≡ length list₀
