-- A trip with the hours of its target: the first tick at or after the arrival at which the target is open,
-- and what is told of both. On a refusal that tick is 0. That it is the first such tick is `visit_open`.
use mathlib.Core.{Path.◌≡◌, Path.ap, Path.◌∙◌, List.List, List.[], List.◌∷◌}
use Rattle.std.specs.Prelude.{ℕ, ◌^◌, ◌≤◌, ◌<◌, length, Result, Ok, Err}
use Rattle.std.proofs.Common.{arith}
use Rattle.theory_paths.specs.Graph.{Permit}
use Rattle.file_refusals.specs.declared.Refusal.{Refusal}
use Rattle.file_refusals.specs.Says.{Says, answers, refuses}
use Rattle.network.specs.declared.header.Header.{Header}
use Rattle.network.specs.{Network.Network, Decode.decode, Valid.ValidFile, Town.graph_of}
use Rattle.network_hours.specs.Hours.{FirstOpen, open_after, first_open}
use Rattle.search_labels.specs.Ready.{Leaving}
use Rattle.search_path.specs.{Answer.searched, Says.trip_tick}
use Rattle.search_path.specs.Promise.{Means, no_way, too_short, arrives, searched_means, before_never}
use Rattle.search_path.specs.declared.answer.{Arrival.Arrival}
use Rattle.trip_call.specs.{Trip.TripCall, Stage.Asked}
use Rattle.trip_call.specs.Drive.{drive_nodes, drive_period, valid_leaving}

-- the tick, for a trip to node t
abbrev pub open_tick : Network → ℕ → Result Arrival Refusal → ℕ
open_tick n t (Ok a) = open_after n t a.tick
open_tick n t (Err r) = 0

-- what a trip and that tick say: the tick of arrival, the count of roads, and the tick at which it is open
abbrev pub visit_says : Result Arrival Refusal → ℕ → Says
visit_says (Ok a) opens = answers (a.tick ∷ a.count ∷ opens ∷ [])
visit_says (Err r) opens = refuses 3 r

module _ {file : List ℕ} {h : Header} {p : Permit} {s t x room : ℕ}
    {arrivals₀ arrivals₁ roads₀ roads₁ : List ℕ} {a : Result Arrival Refusal} (v : ValidFile file h) (q : Asked h s t x room)
    (c : TripCall (Ok h) (graph_of (decode file)) p s t x arrivals₀ arrivals₁ roads₀ roads₁ a) where
  -- no arrival comes near the end of 32 bits
  pub visit_early : trip_tick a ≤ 2 ^ 31
  visit_early = go (searched_means leaves p t (omega (arith, drive_nodes v, q.to_node)) (length roads₀))
    where
      leaves : Leaving (graph_of (decode file)) s x
      leaves = valid_leaving v s x q.from_node q.early

      told : {b : Result Arrival Refusal} → searched (graph_of (decode file)) p s t x (length roads₀) ≡ b
          → trip_tick a ≡ trip_tick b
      told e = ap trip_tick (c.answer ∙ e)

      go : Means (graph_of (decode file)) p s t x (length roads₀)
          (searched (graph_of (decode file)) p s t x (length roads₀)) → trip_tick a ≤ 2 ^ 31
      go (no_way u z) = omega (arith, told z)
      go (too_short i y l z) = omega (arith, told z)
      go (arrives r z k l y) = omega (arith, told z, before_never leaves y.earliest)

-- WHAT THAT TICK IS, on arrival at a node of a valid file
pub visit_open : {file : List ℕ} {h : Header} → ValidFile file h → (t : ℕ) → t < h.nodes → (r : Arrival)
    → FirstOpen (decode file) t r.tick (open_tick (decode file) t (Ok r))
visit_open {file} v t l r =
    first_open (decode file) t r.tick (omega (arith, drive_period v, v.within.period_some))
    (v.sound.hours t (omega (arith, drive_nodes v)))

-- FOR CODE: that tick by the answer's case
module _ (n : Network) (t : ℕ) (trip : Result Arrival Refusal) where
  pub opens_arrived : (a : Arrival) (r : ℕ) → trip ≡ Ok a → r ≡ open_after n t a.tick
      → r ≡ open_tick n t trip
  opens_arrived a r e f = rw e f

  pub opens_refused : (q : Refusal) (r : ℕ) → trip ≡ Err q → r ≡ 0 → r ≡ open_tick n t trip
  opens_refused q r e f = rw e f

pub arrived_early : (trip : Result Arrival Refusal) (a : Arrival) → trip ≡ Ok a → trip_tick trip ≤ 2 ^ 31
    → a.tick ≤ 2 ^ 31
arrived_early trip a e l = rw e at l

-- for `search visits`
pub ruleset visits = (visit_early, opens_arrived, opens_refused, arrived_early)
