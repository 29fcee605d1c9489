-- What a search answers, and what it leaves in the two lists, by the labels and the chosen path of
-- `theory_paths`. Definitions, and which of its cases an answer is; what they mean for a van is in `Promise`.
use mathlib.Core.{Path.◌≡◌, Path.refl, Path.sym, Path.◌∙◌, Path.ap, Logic.◌≢◌, List.List}
use Rattle.std.specs.Prelude.{Bool, true, false, cond, ℕ, ◌≤◌, ◌<◌, Result, Ok, Err}
use Rattle.std.proofs.Common.{eqb-true, ltb-true, ltb-false}
use lib.{ListN.length, ListN.get_or, Dec.eqb, Dec.ltb}
use Rattle.std.proofs.lemmas.Bool.{eqb-false}
use Rattle.theory_loops.specs.Fill.{Filled}
use Rattle.theory_paths.specs.{Graph.Graph, Graph.Permit, Earliest.never, Labels.label, Labels.labels}
use Rattle.theory_paths.specs.Chosen.{chosen}
use Rattle.file_refusals.specs.Apart.{same_value, not_both}
use Rattle.file_refusals.specs.Refusal.{refusal}
use Rattle.search_path.specs.Trim.{shown}
use Rattle.file_refusals.specs.declared.Refusal.{Refusal}
use Rattle.search_path.specs.declared.answer.{Arrival.Arrival}

-- The answer where the target's label is `tick`, the chosen path has `count` arcs and the list of roads has
-- room for `room`. 28: no way; 29: the list of roads is shorter than the chosen path.
abbrev pub answer_of : ℕ → ℕ → ℕ → Result Arrival Refusal
answer_of tick count room =
    cond (eqb tick never) (Err (refusal 28 0))
    (cond (ltb room count) (Err (refusal 29 0))
    (Ok (record { tick = tick; count = count })))

-- The chosen path from s to t over the permitted arcs, leaving at tick x, and what a search answers that has
-- room for so many roads.
abbrev pub path_of : Graph → Permit → ℕ → ℕ → ℕ → List ℕ
path_of g p s t x = chosen g p s (labels g p s x) t

abbrev pub searched : Graph → Permit → ℕ → ℕ → ℕ → ℕ → Result Arrival Refusal
searched g p s t x room = answer_of (label (labels g p s x) t) (length (path_of g p s t x)) room

-- The list's entry at a place.
abbrev pub entry_of : List ℕ → ℕ → ℕ
entry_of w k = get_or w k 0

-- How many roads are written.
abbrev pub written : Result Arrival Refusal → ℕ
written (Ok a) = a.count
written (Err r) = 0

-- The answer r and the list of roads, before and after, where the target's label is `tick` and the path has
-- `count` arcs, each of them a `road`: the first roads become the path where it is written, the others stay.
pub record Told (tick count : ℕ) (road : ℕ → ℕ) (roads₀ roads : List ℕ) (r : Result Arrival Refusal) : Type 0 where
  pub answer : r ≡ answer_of tick count (length roads₀)
  pub writes : Filled 0 (written r) road roads₀ roads

-- This by the true labels and the chosen path, with the list of arrivals: its first entries, one for each
-- node, become what is shown of the labels, the others stay.
pub record Answered (g : Graph) (p : Permit) (s x t : ℕ) (arrivals₀ arrivals roads₀ roads : List ℕ)
    (r : Result Arrival Refusal) : Type 0 where
  pub shows : Filled 0 g.nodes (shown (labels g p s x) t) arrivals₀ arrivals
  pub told : Told (label (labels g p s x) t) (length (path_of g p s t x)) (entry_of (path_of g p s t x)) roads₀
      roads r

-- WHICH CASE an answer is
pub data Case (tick count room : ℕ) (a : Result Arrival Refusal) : Type 0 where
  none : tick ≡ never → a ≡ Err (refusal 28 0) → Case tick count room a
  short : tick ≢ never → room < count → a ≡ Err (refusal 29 0) → Case tick count room a
  fits : tick ≢ never → count ≤ room → a ≡ Ok (record { tick = tick; count = count })
      → Case tick count room a

pub case_of : (tick count room : ℕ) → Case tick count room (answer_of tick count room)
case_of tick count room = go (eqb tick never) (ltb room count) refl refl
  where
    go : (b d : Bool) → eqb tick never ≡ b → ltb room count ≡ d
        → Case tick count room (cond b (Err (refusal 28 0))
        (cond d (Err (refusal 29 0)) (Ok (record { tick = tick; count = count }))))
    go true d p q = none (eqb-true tick never p) refl
    go false true p q = short (eqb-false tick never p) (ltb-true room count q) refl
    go false false p q = fits (eqb-false tick never p) (ltb-false room count q) refl

-- an arrival's count is the chosen path's, and there is room for it
pub count_is : (tick count room : ℕ) (a : Arrival) → Ok a ≡ answer_of tick count room
    → (a.count ≡ count) × (count ≤ room)
count_is tick count room a e = go (case_of tick count room)
  where
    go : Case tick count room (answer_of tick count room) → (a.count ≡ count) × (count ≤ room)
    go (none t q) = not_both _ a (sym (e ∙ q))
    go (short t l q) = not_both _ a (sym (e ∙ q))
    go (fits t l q) = (ap (λ (b : Arrival). b.count) (same_value a _ (e ∙ q)), l)
