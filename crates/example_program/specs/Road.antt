-- The travel of road 1 of Quay town as the program has it: by the plain trip from place 1 to place 2, which
-- it alone leads to from there.
use Rattle.std.specs.Prelude.{List, ℕ, ◌-◌, get_or}
use Rattle.search_path.specs.Says.{trip_says}
use Rattle.trip.specs.Calls.{plain_call}

-- the arrival, which is 0 where there is none, less the departure
abbrev pub road_travel : List ℕ → ℕ → ℕ
road_travel network tick = get_or (trip_says (plain_call network 1 2 tick)).values 0 0 - tick
