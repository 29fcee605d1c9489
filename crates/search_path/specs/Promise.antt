-- What a search's answer means (`searched_means`): 28 where there is no permitted path, 29 where there is one
-- and the list of roads is shorter than the chosen path, else an arrival that is the earliest over all
-- permitted paths, by the chosen path. From a node to itself it arrives at once (`at_home`). The word for
-- never is no arrival (`before_never`).
use mathlib.Core.{Path.◌≡◌, Path.refl, Path.sym, Path.◌∙◌, Path.ap, Logic.◌≢◌, Logic.◌↔◌, List.List}
use Rattle.std.specs.Prelude.{ℕ, ◌+◌, ◌-◌, ◌*◌, ◌≤◌, ◌<◌, length, Result, Ok, Err}
use native.Mathlib.{Nat.sub-le, Nat.mul-le-mul_right, Omega.arith}
use Rattle.std.proofs.Common.{ne_eqb, le-ltb}
use Rattle.theory_paths.specs.Graph.{Graph, Permit, driven, Reachable, EarliestArrival}
use Rattle.theory_paths.specs.{Labels.label, Labels.labels, Hops.Known}
use Rattle.theory_paths.proofs.Drive.{arrival_reach}
use Rattle.theory_paths.specs.Earliest.{never}
use Rattle.theory_paths.proofs.Earliest.{earliest_unique, exact_bound, exact_never}
use Rattle.theory_paths.specs.Chosen.{IsChosen}
use Rattle.theory_paths.proofs.Chosen.{chosen_path, chosen_is, chosen_empty}
use Rattle.file_refusals.specs.Refusal.{refusal}
use Rattle.search_labels.specs.Ready.{Leaving}
use Rattle.search_chains.specs.Town.{last_tick}
use Rattle.search_path.specs.Answering.{true_exact, true_capped}
use Rattle.search_path.specs.Answer.{path_of, searched, Case, none, short, fits, case_of}
use Rattle.file_refusals.specs.declared.Refusal.{Refusal}
use Rattle.search_path.specs.declared.answer.{Arrival.Arrival}

-- The path is the way of document 02 from s to t; driven from tick x, it ends at the tick; no permitted path
-- ends before; and it has fewer arcs than there are nodes.
pub record Way (g : Graph) (p : Permit) (s x t : ℕ) (path : List ℕ) (tick : ℕ) : Type 0 where
  pub chosen : IsChosen g p s x t path
  pub drives : driven g path x ≡ tick
  pub earliest : EarliestArrival g p s x t tick
  pub few : length path ≤ g.nodes - 1

pub data Means (g : Graph) (p : Permit) (s t x room : ℕ) (a : Result Arrival Refusal) : Type 0 where
  no_way : (¬ Reachable g p s t) → a ≡ Err (refusal 28 0) → Means g p s t x room a
  too_short : (tick : ℕ) → Way g p s x t (path_of g p s t x) tick → room < length (path_of g p s t x)
      → a ≡ Err (refusal 29 0)
      → Means g p s t x room a
  arrives : (r : Arrival) → a ≡ Ok r → r.count ≡ length (path_of g p s t x) → r.count ≤ room
      → Way g p s x t (path_of g p s t x) r.tick → Means g p s t x room a

module _ {g : Graph} {s x : ℕ} (d : Leaving g s x) where
  early : x + (g.nodes - 1) * d.most ≤ last_tick
  early = omega (arith, d.early, mul-le-mul_right d.most (sub-le g.nodes 1))

  -- no earliest arrival comes near the word for never
  pub before_never : {p : Permit} {v b : ℕ} → EarliestArrival g p s x v b → b ≤ last_tick
  before_never {p} {v} e =
      let q = true_exact d p in
      let k =
      exact_bound q d.ok d.bounded d.node (omega (arith, early)) (arrival_reach e.arrival) in
      omega (arith, early, earliest_unique e (q.earliest v (omega (arith, early)) (omega (arith, early))))

  module _ (p : Permit) (t : ℕ) where
    pub never_is : (label (labels g p s x) t ≡ never) ↔ (¬ Reachable g p s t)
    never_is =
        exact_never (true_exact d p) d.ok d.bounded d.node (omega (arith, early)) t
        (true_capped d p t)

    module _ (l : t < g.nodes) where
      known : label (labels g p s x) t ≢ never → Known g (labels g p s x) never t
      known ne = record { node = l; upto = true_capped d p t; known = omega (arith, true_capped d p t) }

      way : label (labels g p s x) t ≢ never → Way g p s x t (path_of g p s t x) (label (labels g p s x) t)
      way ne =
          let k = known ne in
          let f = chosen_path d.ok (labels g p s x) (true_exact d p) k in
          record {
            chosen = chosen_is d.ok (labels g p s x) (true_exact d p) k;
            drives = f.at;
            earliest = (true_exact d p).earliest t k.upto k.known;
            few = f.short;
          }

      pub searched_means : (room : ℕ) → Means g p s t x room (searched g p s t x room)
      searched_means room = go (case_of (label (labels g p s x) t) (length (path_of g p s t x)) room)
        where
          go : Case (label (labels g p s x) t) (length (path_of g p s t x)) room (searched g p s t x room)
              → Means g p s t x room (searched g p s t x room)
          go (none e q) = no_way (never_is.0 e) q
          go (short ne m q) = too_short _ (way ne) m q
          go (fits ne m q) = arrives _ q refl m (way ne)

      pub at_home : s ≡ t → (room : ℕ) → searched g p s t x room ≡ Ok (record { tick = x; count = 0 })
      at_home e room =
          let L = labels g p s x in
          let y : label L t ≡ x = ap (label L) (sym e) ∙ (true_exact d p).source in
          let n : label L t ≢ never = λ z. omega (arith, early) in
          let c = (chosen_empty d.ok L (true_exact d p) (known n)).1 e in
          rw (c, y, ne_eqb x never (λ z. omega (arith, early)), le-ltb room 0 (omega arith))
