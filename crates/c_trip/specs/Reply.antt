-- How an answer stands in the memory that C lends: the tablet's answer as bytes. The desk's stands there as
-- numbers (`numbers_of`).
use Rattle.std.specs.Prelude.{List, [], ◌∷◌, ◌++◌, ℕ, ◌+◌, ◌*◌, take, Result}
use Rattle.theory_loops.specs.Fill.{tab}
use Rattle.file_fields.specs.Fields.{byte_of}
use Rattle.network.specs.Limits.{most_roads}
use Rattle.file_refusals.specs.declared.Refusal.{Refusal}
use Rattle.search_path.specs.declared.answer.Arrival.{Arrival}
use Rattle.search_path.specs.Says.{trip_says, trip_tick, trip_count}

-- the bytes of an answer that lists the most roads
abbrev pub trip_size : ℕ
trip_size = 10 + 2 * most_roads

-- a number in so many bytes, low byte first
abbrev pub bytes : ℕ → ℕ → List ℕ
bytes w v = tab w (byte_of v)

-- road numbers, two bytes each
unfoldable pub road_bytes : List ℕ → List ℕ
road_bytes [] = []
road_bytes (a ∷ w) = bytes 2 a ++ road_bytes w

-- the answer to a trip whose chosen path this is: refusal or 0 and arrival, 4 bytes each, count and road
-- numbers, 2 each
abbrev pub trip_bytes : Result Arrival Refusal → List ℕ → List ℕ
trip_bytes a path =
    bytes 4 (trip_says a).number ++ bytes 4 (trip_tick a) ++ bytes 2 (trip_count a)
    ++ road_bytes (take (trip_count a) path)
