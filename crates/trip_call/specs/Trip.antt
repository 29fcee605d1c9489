-- A trip: what it answers, and what it leaves in its two lent lists, by the refusals before the search and by
-- the search itself. Said once for every kind of trip: which refusals come first, and which arcs of which
-- graph are permitted, are arguments.
use mathlib.Core.{Path.◌≡◌, Bool.cond, List.List}
use Rattle.file_refusals.specs.Refusal.{refused}
use Rattle.std.specs.Prelude.{ℕ, Result, Ok, Err}
use lib.{ListN.length, Dec.leb, Dec.ltb}
use Rattle.theory_loops.specs.Fill.{tab, overwritten}
use Rattle.theory_paths.specs.{Graph.Graph, Graph.Permit, Labels.labels}
use Rattle.file_refusals.specs.declared.Refusal.{Refusal}
use Rattle.network.specs.declared.header.Header.{Header}
use Rattle.search_path.specs.declared.answer.Arrival.{Arrival}
use Rattle.search_path.specs.{Answer.path_of, Answer.searched, Trim.shown}

-- 25: from, then to, is no node (that number); 26: the departure is not below the period; 27: the list of
-- arrivals has no room for the nodes
unfoldable pub asked : Header → ℕ → ℕ → ℕ → ℕ → Result Header Refusal
asked h from to departure room =
    cond (leb h.nodes from) (refused 25 from)
    (cond (leb h.nodes to) (refused 25 to)
    (cond (leb h.period departure) (refused 26 0)
    (cond (ltb room h.nodes) (refused 27 0)
    (Ok h))))

-- a ladder that goes on where the one before it refuses nothing
abbrev pub and_then : Result Header Refusal → (Header → Result Header Refusal) → Result Header Refusal
and_then (Err r) next = Err r
and_then (Ok h) next = next h

-- the answer: a refusal that comes before the search, or what the search answers
abbrev pub trip_answer : Result Header Refusal → Result Arrival Refusal → Result Arrival Refusal
trip_answer (Err r) found = Err r
trip_answer (Ok h) found = found

-- the arrivals at exit: untouched up to 27; else the first N show the earliest arrivals before the target's,
-- and the target's
abbrev pub trip_arrivals : Result Header Refusal → Graph → Permit → ℕ → ℕ → ℕ → List ℕ → List ℕ
trip_arrivals (Err r) g p s t x old = old
trip_arrivals (Ok h) g p s t x old = overwritten (tab g.nodes (shown (labels g p s x) t)) old

-- the roads at exit: changed on arrival alone, and then the first are the chosen path
abbrev pub trip_roads : Result Arrival Refusal → Graph → Permit → ℕ → ℕ → ℕ → List ℕ → List ℕ
trip_roads (Ok a) g p s t x old = overwritten (path_of g p s t x) old
trip_roads (Err r) g p s t x old = old

-- THE CALL: b is what comes before the search; from s to t over the permitted arcs of g, leaving at tick x;
-- the two lists at entry and at exit; and the answer a
pub record TripCall (b : Result Header Refusal) (g : Graph) (p : Permit) (s t x : ℕ)
    (arrivals₀ arrivals₁ roads₀ roads₁ : List ℕ) (a : Result Arrival Refusal) : Type 0 where
  pub answer : a ≡ trip_answer b (searched g p s t x (length roads₀))
  pub arrivals : arrivals₁ ≡ trip_arrivals b g p s t x arrivals₀
  pub roads : roads₁ ≡ trip_roads a g p s t x roads₀

-- FOR CODE that goes on from a ladder: o is what it answered, and k the definition that it meets
pub then_refused : (o k : Result Header Refusal) (r : Refusal) (next : Header → Result Header Refusal) → o ≡ k → o ≡ Err r
    → Err r ≡ and_then k next
then_refused o k r next e f = rw (← e, f)

pub then_opened : (o k a : Result Header Refusal) (h : Header) (next : Header → Result Header Refusal) → o ≡ k → o ≡ Ok h → a ≡ next h
    → a ≡ and_then k next
then_opened o k a h next e f g = rw (← e, f) g
