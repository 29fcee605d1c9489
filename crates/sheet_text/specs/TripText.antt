-- The text of a line of the input: for a line that asks for a trip from, to, leave, and then arrive, road
-- count and roads, or `refused` and its number; for a line of another shape `refused 32` alone.
use Rattle.std.specs.Prelude.{Option, Some, None, List, [], ◌∷◌, ◌++◌, ℕ, Result, Ok, Err}
use Rattle.trip.specs.Calls.{flagged_call, flagged_path}
use Rattle.sheet_line.specs.declared.line.Asking.{Asking}
use Rattle.text_numbers.specs.{Text.ascii, Text.line_feed, Number.decimal}
use Rattle.file_refusals.specs.declared.Refusal.{Refusal}
use Rattle.search_path.specs.declared.answer.Arrival.{Arrival}
use Rattle.sheet_text.specs.Numbers.{spaced}

-- the flagged trip that a line asks for, with fresh lists: its answer, and the chosen path
unfoldable pub trip_of : List ℕ → List ℕ → Asking → Result Arrival Refusal
trip_of network plan a = flagged_call network plan a.from a.to a.leave

unfoldable pub path_for : List ℕ → List ℕ → Asking → List ℕ
path_for network plan a = flagged_path network plan a.from a.to a.leave

-- from, to, leave
unfoldable pub asking_text : Asking → List ℕ
asking_text a = decimal a.from ++ spaced (a.to ∷ a.leave ∷ [])

-- arrive, road count and roads; or `refused` and its number
unfoldable pub answer_text : Result Arrival Refusal → List ℕ → List ℕ
answer_text (Ok r) roads = spaced (r.tick ∷ r.count ∷ roads) ++ line_feed
answer_text (Err r) roads = ascii " refused" ++ spaced (r.number ∷ []) ++ line_feed

unfoldable pub trip_text : List ℕ → List ℕ → Asking → List ℕ
trip_text network plan a = asking_text a ++ answer_text (trip_of network plan a) (path_for network plan a)

unfoldable pub line_text : List ℕ → List ℕ → Option Asking → List ℕ
line_text network plan (Some a) = trip_text network plan a
line_text network plan None = ascii "refused 32\n"
