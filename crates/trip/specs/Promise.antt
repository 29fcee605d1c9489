-- What a trip's answer means, said once for every kind of trip. An arrival is the earliest over the permitted
-- paths, with whatever waits, by the chosen path; 28 is said exactly where nothing before it is refused and
-- there is no path; 29 exactly where nothing before it is refused, there is a path, and the list of roads is
-- shorter than the chosen one; and the list of arrivals shows the least arrivals.
use mathlib.Core.{Path.◌≡◌, Path.refl, Path.sym, Path.◌∙◌, Path.ap, List.List, List.[]}
use Rattle.file_refusals.specs.Apart.{not_both, same_refusal}
use Rattle.std.specs.Prelude.{◌≢◌, ◌↔◌, ◌⊎◌, ℕ, ◌≤◌, ◌<◌, length, take, Result, Ok, Err}
use Rattle.std.proofs.Common.{inl, inr, arith}
use Rattle.theory_loops.specs.Fill.{Filled, length_tab, list_filled}
use Rattle.theory_paths.specs.Graph.{Graph, Permit, IsPath, driven, waited, Reachable, EarliestArrival}
use Rattle.theory_paths.specs.{Earliest.never, Labels.labels, Chosen.IsChosen}
use Rattle.theory_paths.proofs.Drive.{earliest_waiting}
use Rattle.file_refusals.specs.declared.Refusal.{Refusal}
use Rattle.file_refusals.specs.Numbered.{Between, Numbered}
use Rattle.network.specs.declared.header.Header.{Header}
use Rattle.search_labels.specs.Ready.{Leaving}
use Rattle.file_refusals.specs.Apart.{same_value, not_both}
use Rattle.search_path.specs.{Answer.path_of, Answer.searched, Trim.shown}
use Rattle.search_path.specs.Promise.{Means, no_way, too_short, arrives}
use Rattle.search_path.specs.{Promise.searched_means, Promise.at_home, Promise.before_never, Says.trip_says}
use Rattle.search_path.specs.Shows.{ShowsBefore, ShowsAll, shows_before, shows_all}
use Rattle.search_path.specs.declared.answer.{Arrival.Arrival}
use Rattle.trip_call.specs.{Trip.trip_answer, Trip.TripCall, Drive.call_roads}
use Rattle.network.specs.Limits.{most_roads}

-- AN ARRIVAL, with a path: it is a permitted one from s to t, as long as counted, that driven from tick x
-- ends at the tick answered; no permitted path, with whatever waits, ends before; and the tick is no word for
-- never.
pub record BestTrip (g : Graph) (p : Permit) (s x t : ℕ) (path : List ℕ) (r : Arrival) : Type 0 where
  pub leads : IsPath g p s t path
  pub counted : r.count ≡ length path
  pub drives : driven g path x ≡ r.tick
  pub earliest : EarliestArrival g p s x t r.tick
  pub waits : (w ds : List ℕ) → IsPath g p s t w → r.tick ≤ waited g w ds x
  pub early : r.tick < never

-- AN ANSWER, with a path: 28 exactly where there is no permitted path from s to t; else an arrival that no
-- permitted path beats.
pub record AsGoodAsAny (g : Graph) (p : Permit) (s x t : ℕ) (path : List ℕ) (a : Result Arrival Refusal) : Type 0 where
  pub no_way : ((trip_says a).number ≡ 28) ↔ (¬ Reachable g p s t)
  pub arrives : Reachable g p s t → (r : Arrival) × (a ≡ Ok r)
  pub best : (r : Arrival) → a ≡ Ok r → BestTrip g p s x t path r

-- Nothing before the search is refused.
abbrev pub Passed : Result Header Refusal → Type 0
Passed b = (h : Header) × (b ≡ Ok h)

-- The roads that are listed: as many as are counted.
abbrev pub listed : Result Arrival Refusal → List ℕ → List ℕ
listed (Ok r) roads = take r.count roads
listed (Err r) roads = []

-- What comes before a search: its refusals are any but 28 and 29, and where it refuses nothing, source,
-- target, departure and list of arrivals will do.
abbrev pub BeforeSearch : ℕ → Type 0
BeforeSearch number = Between 1 27 number ⊎ (30 ≤ number)

pub record Leaves (g : Graph) (s t x room : ℕ) : Type 0 where
  pub leaving : Leaving g s x
  pub target : t < g.nodes
  pub long : g.nodes ≤ room

pub record Begins (b : Result Header Refusal) (g : Graph) (s t x room : ℕ) : Type 0 where
  pub numbers : Numbered BeforeSearch b
  pub opened : (h : Header) → b ≡ Ok h → Leaves g s t x room

-- An arrival of a trip: nothing before the search was refused; the path is listed whole, and no longer than a
-- path of all nodes; none beats it, and it is the way of document 02.
pub record Arrives (b : Result Header Refusal) (g : Graph) (p : Permit) (s t x free : ℕ) (r : Arrival) : Type 0 where
  pub passed : Passed b
  pub fits : r.count ≤ free
  pub few : r.count ≤ most_roads
  pub best : BestTrip g p s x t (path_of g p s t x) r
  pub chosen : IsChosen g p s x t (path_of g p s t x)

-- how a trip ends
data Ends (b : Result Header Refusal) (g : Graph) (p : Permit) (s t x room free : ℕ) (a : Result Arrival Refusal) : Type 0 where
  refused : (r : Refusal) → b ≡ Err r → BeforeSearch r.number → a ≡ Err r
      → Ends b g p s t x room free a
  searches : (h : Header) → b ≡ Ok h → Leaves g s t x room → Means g p s t x free a
      → Ends b g p s t x room free a

not_searched : {n : ℕ} → BeforeSearch n → (1 ≤ n) × (n ≢ 28) × (n ≢ 29)
not_searched (inl k) = (k.0, λ e. omega (arith, k.1), λ e. omega (arith, k.1))
not_searched (inr k) = (omega arith, λ e. omega arith, λ e. omega arith)

number_is : {a c : Result Arrival Refusal} → a ≡ c → (trip_says a).number ≡ (trip_says c).number
number_is e = ap (λ (k : Result Arrival Refusal). (trip_says k).number) e

-- THE ANSWER, where b is what came before the search, over the arcs that p permits, with room for `free`
-- roads
module _ {b : Result Header Refusal} {g : Graph} {s t x room : ℕ} (w : Begins b g s t x room) (p : Permit) (free : ℕ)
    {a : Result Arrival Refusal}
    (e : a ≡ trip_answer b (searched g p s t x free)) where
  ends : Ends b g p s t x room free a
  ends = go b refl e
    where
      go : (c : Result Header Refusal) → b ≡ c → a ≡ trip_answer c (searched g p s t x free) → Ends b g p s t x room free a
      go (Err r) f z = refused r f (w.numbers r f) z
      go (Ok h) f z =
          let k = w.opened h f in searches h f k (rw z (searched_means k.leaving p t k.target free))

  pub trip_no_way : ((trip_says a).number ≡ 28) ↔ (Passed b × (¬ Reachable g p s t))
  trip_no_way = (λ n. there n ends, λ q. back q.0.1 q.1 ends)
    where
      there : (trip_says a).number ≡ 28 → Ends b g p s t x room free a → Passed b × (¬ Reachable g p s t)
      there n (refused r f l z) = absurd ((not_searched l).1 (sym (number_is z) ∙ n))
      there n (searches h f k (no_way u z)) = ((h, f), u)
      there n (searches h f k (too_short i y l z)) = absurd (omega (arith, number_is z))
      there n (searches h f k (arrives r z c l y)) = absurd (omega (arith, number_is z))

      back : {h : Header} → b ≡ Ok h → (¬ Reachable g p s t) → Ends b g p s t x room free a
          → (trip_says a).number ≡ 28
      back f n (refused r i l z) = not_both _ _ (sym i ∙ f)
      back f n (searches h i k (no_way u z)) = number_is z
      back f n (searches h i k (too_short j y l z)) =
          absurd (n (record { path = path_of g p s t x; leads = y.chosen.leads }))
      back f n (searches h i k (arrives r z c l y)) =
          absurd (n (record { path = path_of g p s t x; leads = y.chosen.leads }))

  pub trip_short : ((trip_says a).number ≡ 29) ↔
      (Passed b × Reachable g p s t × (free < length (path_of g p s t x)))
  trip_short = (λ n. there n ends, λ q. back q.0.1 q.1 q.2 ends)
    where
      there : (trip_says a).number ≡ 29 → Ends b g p s t x room free a
          → Passed b × Reachable g p s t × (free < length (path_of g p s t x))
      there n (refused r f l z) = absurd ((not_searched l).2 (sym (number_is z) ∙ n))
      there n (searches h f k (no_way u z)) = absurd (omega (arith, number_is z))
      there n (searches h f k (too_short i y l z)) =
          ((h, f), record { path = path_of g p s t x; leads = y.chosen.leads }, l)
      there n (searches h f k (arrives r z c l y)) = absurd (omega (arith, number_is z))

      back : {h : Header} → b ≡ Ok h → Reachable g p s t → free < length (path_of g p s t x)
          → Ends b g p s t x room free a
          → (trip_says a).number ≡ 29
      back f q m (refused r i l z) = not_both _ _ (sym i ∙ f)
      back f q m (searches h i k (no_way u z)) = absurd (u q)
      back f q m (searches h i k (too_short j y l z)) = number_is z
      back f q m (searches h i k (arrives r z c l y)) = absurd (omega arith)

  pub trip_reaches : Passed b → Reachable g p s t → length (path_of g p s t x) ≤ free
      → (r : Arrival) × (a ≡ Ok r)
  trip_reaches o q m = go o.1 ends
    where
      go : {h : Header} → b ≡ Ok h → Ends b g p s t x room free a → (r : Arrival) × (a ≡ Ok r)
      go f (refused r i l z) = not_both _ _ (sym i ∙ f)
      go f (searches h i k (no_way u z)) = absurd (u q)
      go f (searches h i k (too_short j y l z)) = absurd (omega arith)
      go f (searches h i k (arrives r z c l y)) = (r, z)

  pub trip_home : Passed b → s ≡ t → a ≡ Ok (record { tick = x; count = 0 })
  trip_home (h, f) q = let k = w.opened h f in rw f at e ∙ at_home k.leaving p t k.target q free

  pub trip_arrived : (r : Arrival) → a ≡ Ok r → Arrives b g p s t x free r
  trip_arrived r q = go ends
    where
      go : Ends b g p s t x room free a → Arrives b g p s t x free r
      go (refused k f l z) = not_both _ r (sym (sym q ∙ z))
      go (searches h f k (no_way u z)) = not_both _ r (sym (sym q ∙ z))
      go (searches h f k (too_short i y l z)) = not_both _ r (sym (sym q ∙ z))
      go (searches h f k (arrives i z c l y)) = rw (← (same_value i r (sym z ∙ q))) (record {
        passed = (h, f);
        fits = l;
        few = omega (arith, y.few, k.leaving.few);
        best = record {
          leads = y.chosen.leads;
          counted = c;
          drives = y.drives;
          earliest = y.earliest;
          waits = λ w ds j. earliest_waiting k.leaving.ok ds y.earliest j;
          early = omega (arith, before_never k.leaving y.earliest);
        };
        chosen = y.chosen;
      })

  -- where there is room for every path, 29 is not said
  pub never_short : most_roads ≤ free → (trip_says a).number ≢ 29
  never_short l n = go ends
    where
      go : Ends b g p s t x room free a → ⊥
      go (refused r f i z) = (not_searched i).2 (sym (number_is z) ∙ n)
      go (searches h f k (no_way u z)) = omega (arith, number_is z)
      go (searches h f k (too_short i y m z)) = omega (arith, y.few, k.leaving.few)
      go (searches h f k (arrives r z c m y)) = omega (arith, number_is z)

  -- the refusals: those before the search, 28 and 29
  pub trip_refused : (r : Refusal) → a ≡ Err r
      → (b ≡ Err r) ⊎ ((r.number ≡ 28) ⊎ (r.number ≡ 29))
  trip_refused r q = go ends
    where
      go : Ends b g p s t x room free a → (b ≡ Err r) ⊎ ((r.number ≡ 28) ⊎ (r.number ≡ 29))
      go (refused k f l z) = inl (f ∙ ap (λ (i : Refusal). Err i) (same_refusal k r (sym z ∙ q)))
      go (searches h f k (no_way u z)) = inr (inl (number_is (sym q ∙ z)))
      go (searches h f k (too_short i y l z)) = inr (inr (number_is (sym q ∙ z)))
      go (searches h f k (arrives i z c l y)) = not_both _ i (sym (sym z ∙ q))

  -- so the answer is as good as any, where there is room for the chosen path
  pub trip_good : Passed b → (Reachable g p s t → length (path_of g p s t x) ≤ free)
      → AsGoodAsAny g p s x t (path_of g p s t x) a
  trip_good o m = record {
    no_way = (λ n. (trip_no_way.0 n).1, λ n. trip_no_way.1 (o, n));
    arrives = λ q. trip_reaches o q (m q);
    best = λ r q. (trip_arrived r q).best;
  }

  -- and there is, where the list has room for every path
  pub call_good : Passed b → most_roads ≤ free → AsGoodAsAny g p s x t (path_of g p s t x) a
  call_good o l = trip_good o (λ q. go q o.1 ends)
    where
      go : Reachable g p s t → {h : Header} → b ≡ Ok h → Ends b g p s t x room free a
          → length (path_of g p s t x) ≤ free
      go q f (refused r i j z) = not_both _ _ (sym i ∙ f)
      go q f (searches h i k (no_way u z)) = absurd (u q)
      go q f (searches h i k (too_short j y m z)) = omega (arith, y.few, k.leaving.few)
      go q f (searches h i k (arrives r z c m y)) = omega arith

-- THE TWO LISTS
module _ {b : Result Header Refusal} {g : Graph} {p : Permit} {s t x : ℕ} {arrivals₀ arrivals₁ roads₀ roads₁ : List ℕ}
    {a : Result Arrival Refusal}
    (w : Begins b g s t x (length arrivals₀))
    (c : TripCall b g p s t x arrivals₀ arrivals₁ roads₀ roads₁ a) where
  pub trip_arrives : (r : Arrival) → a ≡ Ok r → BestTrip g p s x t (take r.count roads₁) r
  trip_arrives r q = rw (call_roads c r q) (trip_arrived w p (length roads₀) c.answer r q).best

  pub trip_chosen : (r : Arrival) → a ≡ Ok r → IsChosen g p s x t (take r.count roads₁)
  trip_chosen r q = rw (call_roads c r q) (trip_arrived w p (length roads₀) c.answer r q).chosen

  pub lists_good : Passed b → (Reachable g p s t → length (path_of g p s t x) ≤ length roads₀)
      → AsGoodAsAny g p s x t (listed a roads₁) a
  lists_good o m =
      let k = trip_good w p (length roads₀) c.answer o m in
      record { no_way = k.no_way; arrives = k.arrives; best = λ r q. rw q (trip_arrives r q) }

  -- the list of arrivals, once nothing before the search is refused
  filled : (h : Header) → b ≡ Ok h → Filled 0 g.nodes (shown (labels g p s x) t) arrivals₀ arrivals₁
  filled h f =
      let l = list_filled (shown (labels g p s x) t) g.nodes arrivals₀ (w.opened h f).long in
      rw (rw f at c.arrivals, length_tab) l

  pub trip_shows : ((trip_says a).number ≡ 0) ⊎ ((trip_says a).number ≡ 29)
      → ShowsBefore g p s x t arrivals₀ arrivals₁
  trip_shows n = go n (ends w p (length roads₀) c.answer)
    where
      go : ((trip_says a).number ≡ 0) ⊎ ((trip_says a).number ≡ 29)
          → Ends b g p s t x (length arrivals₀) (length roads₀) a
          → ShowsBefore g p s x t arrivals₀ arrivals₁
      go (inl n) (refused r f l z) = absurd (omega (arith, number_is z, (not_searched l).0))
      go (inr n) (refused r f l z) = absurd ((not_searched l).2 (sym (number_is z) ∙ n))
      go n (searches h f k v) = shows_before k.leaving p t (filled h f) k.target

  pub trip_shows_all : (trip_says a).number ≡ 28 → ShowsAll g p s x arrivals₀ arrivals₁
  trip_shows_all n =
      let (o, u) = (trip_no_way w p (length roads₀) c.answer).0 n in
      shows_all (w.opened o.0 o.1).leaving p t (filled o.0 o.1) u

  -- by a refusal before the search both lists are untouched, and the list of roads is by every refusal
  pub trip_untouched : BeforeSearch (trip_says a).number → arrivals₁ ≡ arrivals₀
  trip_untouched l = go (ends w p (length roads₀) c.answer)
    where
      go : Ends b g p s t x (length arrivals₀) (length roads₀) a → arrivals₁ ≡ arrivals₀
      go (refused r f i z) = rw f at c.arrivals
      go (searches h f k (no_way u z)) = absurd ((not_searched l).1 (number_is z))
      go (searches h f k (too_short i y o z)) = absurd ((not_searched l).2 (number_is z))
      go (searches h f k (arrives r z i o y)) = absurd (omega (arith, number_is z, (not_searched l).0))

  pub trip_roads_kept : 1 ≤ (trip_says a).number → roads₁ ≡ roads₀
  trip_roads_kept l = go a refl
    where
      go : (k : Result Arrival Refusal) → a ≡ k → roads₁ ≡ roads₀
      go (Ok r) q = absurd (omega (arith, number_is q))
      go (Err r) q = rw q at c.roads
