-- The laws by which code that stores the text of a line goes on from part to part. The roads that a trip
-- leaves in its list are the chosen path (`trip_stored`), and there are never more than the list has room for
-- (`trip_fits`).
use mathlib.Core.{Path.◌≡◌, Path.refl, Path.◌∙◌, Path.ap, List.List, List.[], List.◌∷◌, List.◌++◌}
use Rattle.std.specs.Prelude.{Option, Some, None, ℕ, ◌≤◌, take, replicate, Result, Ok, Err}
use Rattle.std.proofs.Common.{arith}
use Rattle.theory_paths.specs.Earliest.{never}
use Rattle.file_refusals.specs.declared.Refusal.{Refusal}
use Rattle.network.specs.Limits.{most_nodes, most_roads}
use Rattle.search_path.specs.declared.answer.{Arrival.Arrival}
use Rattle.search_path.specs.Says.{trip_count}
use Rattle.trip_call.specs.Drive.{call_count, call_roads}
use Rattle.trip.specs.Flagged.{FlaggedTrip}
use Rattle.sheet_line.specs.declared.line.Asking.{Asking}
use Rattle.text_numbers.specs.{Text.Stored, Text.ascii, Text.line_feed, Text.stored_then, Number.decimal}
use Rattle.sheet_text.specs.Numbers.{spaced, spaced_append}
use Rattle.sheet_text.specs.TripText.{trip_of, path_for, asking_text, answer_text, trip_text, line_text}

pub asking_stored : (old mid new : List ℕ) (next end : ℕ) (a : Asking)
    → Stored old mid 0 next (decimal a.from)
    → Stored mid new next end (spaced (a.to ∷ a.leave ∷ [])) → Stored old new 0 end (asking_text a)
unfolding asking_text
asking_stored old mid new next end a p q =
    stored_then old mid new 0 next end (decimal a.from) (spaced (a.to ∷ a.leave ∷ [])) p q

pub arrival_stored : (old mid new last : List ℕ) (at next end r tick count : ℕ) (roads : List ℕ)
    → Stored old mid at next (spaced (tick ∷ count ∷ []))
    → Stored mid new next end (spaced roads) → Stored new last end r line_feed
    → Stored old last at r (spaced (tick ∷ count ∷ roads) ++ line_feed)
arrival_stored old mid new last at next end r tick count roads p q f =
    rw (spaced_append (tick ∷ count ∷ []) roads)
    (stored_then old new last at end r _ line_feed
    (stored_then old mid new at next end (spaced (tick ∷ count ∷ [])) (spaced roads) p q) f)

pub refused_stored : (old mid new last : List ℕ) (at next end r number : ℕ)
    → Stored old mid at next (ascii " refused")
    → Stored mid new next end (spaced (number ∷ [])) → Stored new last end r line_feed
    → Stored old last at r (ascii " refused" ++ spaced (number ∷ []) ++ line_feed)
refused_stored old mid new last at next end r number p q f =
    stored_then old new last at end r _ line_feed
    (stored_then old mid new at next end (ascii " refused") (spaced (number ∷ [])) p q) f

-- an answer, by its case
module _ (x : Result Arrival Refusal) where
  pub count_arrived : (a : Arrival) (n : ℕ) → x ≡ Ok a → trip_count x ≤ n → a.count ≤ n
  count_arrived a n e l = rw e at l

  module _ (old new roads : List ℕ) (at end : ℕ) where
    pub answer_arrived : (a : Arrival) → x ≡ Ok a
        → Stored old new at end (spaced (a.tick ∷ a.count ∷ take a.count roads) ++ line_feed)
        → Stored old new at end (answer_text x (take (trip_count x) roads))
    unfolding answer_text
    answer_arrived a e p = rw e p

    pub answer_refused : (r : Refusal) → x ≡ Err r
        → Stored old new at end (ascii " refused" ++ spaced (r.number ∷ []) ++ line_feed)
        → Stored old new at end (answer_text x (take (trip_count x) roads))
    unfolding answer_text
    answer_refused r e p = rw e p

-- THE TRIP that a line asks for, driven with a fresh list of arrivals and one of roads, long enough for every
-- network
module _ (network plan : List ℕ) (a : Asking) (x : Result Arrival Refusal) (arrivals roads : List ℕ)
    (c : FlaggedTrip network plan a.from a.to a.leave (replicate most_nodes never) arrivals
    (replicate most_roads 0) roads x) where
  trip_is : x ≡ trip_of network plan a
  unfolding trip_of
  trip_is = c.answer

  pub trip_fits : trip_count x ≤ most_roads
  trip_fits = go x refl
    where
      go : (y : Result Arrival Refusal) → x ≡ y → trip_count y ≤ most_roads
      go (Ok r) q = let (i, j) = call_count c r q in omega arith
      go (Err r) q = omega arith

  trip_says_lem : answer_text x (take (trip_count x) roads) ≡ answer_text x (path_for network plan a)
  unfolding path_for answer_text
  trip_says_lem = go x refl
    where
      go : (y : Result Arrival Refusal) → x ≡ y
          → answer_text y (take (trip_count y) roads) ≡ answer_text y (path_for network plan a)
      go (Ok r) q = ap (λ (w : List ℕ). spaced (r.tick ∷ r.count ∷ w) ++ line_feed) (call_roads c r q)
      go (Err r) q = refl

  pub trip_stored : (old mid new : List ℕ) (at end : ℕ) → Stored old mid 0 at (asking_text a)
      → Stored mid new at end (answer_text x (take (trip_count x) roads))
      → Stored old new 0 end (trip_text network plan a)
  unfolding trip_text
  trip_stored old mid new at end p q =
      let h : answer_text x (take (trip_count x) roads)
      ≡ answer_text (trip_of network plan a) (path_for network plan a) =
      trip_says_lem ∙ ap (λ (y : Result Arrival Refusal). answer_text y (path_for network plan a)) trip_is in
      stored_then old mid new 0 at end (asking_text a) _ p (rw h at q)

-- a line that has ended, by its case: `line` is what the scan said, and `known` its definition
module _ (network plan old new : List ℕ) (end : ℕ) (line known : Option Asking) (d : line ≡ known) where
  pub line_asks : (a : Asking) → line ≡ Some a → Stored old new 0 end (trip_text network plan a)
      → Stored old new 0 end (line_text network plan known)
  unfolding line_text
  line_asks a e p = rw (← d, e) p

  pub line_other : line ≡ None → Stored old new 0 end (ascii "refused 32\n")
      → Stored old new 0 end (line_text network plan known)
  unfolding line_text
  line_other e p = rw (← d, e) p
