-- What a trip answers, in document 01's terms: the tick of arrival and the count of roads.
use Rattle.std.specs.Prelude.{[], ◌∷◌, ℕ, get_or, Result, Ok, Err}
use Rattle.file_refusals.specs.declared.Refusal.{Refusal}
use Rattle.search_path.specs.declared.answer.Arrival.{Arrival}
use Rattle.file_refusals.specs.Says.{Says, answers, refuses}

abbrev pub trip_says : Result Arrival Refusal → Says
trip_says (Ok a) = answers (a.tick ∷ a.count ∷ [])
trip_says (Err r) = refuses 2 r

-- the tick and the count of roads that it answers: on a refusal both are 0
abbrev pub trip_tick : Result Arrival Refusal → ℕ
trip_tick a = get_or (trip_says a).values 0 0

abbrev pub trip_count : Result Arrival Refusal → ℕ
trip_count a = get_or (trip_says a).values 1 0
