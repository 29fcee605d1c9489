-- The rows of document 01's section on Quay town, and of its run sheet: a question each, about files given by
-- their bytes, and its answer. What is told of a question is stated by the definitions that the contracts of
-- the operations cite, and what an answer says by the one definition for each enum of answers.
use Rattle.std.specs.Prelude.{List, [], ◌∷◌, ◌++◌, ℕ, ◌/◌, ◌%◌, length, take, replicate, Result}
use Rattle.theory_paths.specs.Graph.{driven}
use Rattle.file_refusals.specs.Says as says
use Rattle.file_fields.specs.Block.{block_size}
use Rattle.network.specs.{Answer.opening_says, Decode.decode, Tables.Tables, Tables.tables}
use Rattle.network.specs.Town.{travel_at, graph_of, partition_of}
use Rattle.network_open.specs.Open.{opening}
use Rattle.plan.specs.Border.{borders}
use Rattle.plan_check.specs.{Answer.checking_says, CheckPlan.checking}
use Rattle.search_path.specs.Says.{trip_says, trip_count}
use Rattle.trip.specs.Calls.{plain_call, plain_path, flagged_call, flagged_path}
use Rattle.text_numbers.specs.Text.{ascii}
use Rattle.sheet.specs.Sheet.{sheet_text}
use Rattle.file_refusals.specs.declared.Refusal.{Refusal}
use Rattle.search_path.specs.declared.answer.Arrival.{Arrival}
use Rattle.example_theorem.specs.Files.{network_file, plan_file, point}

-- how many bytes a file has beyond whole blocks, and how many blocks; the borders of a network; the travel of
-- a road at a tick below the period; when roads end that are driven from a tick on; how a network opens; a
-- plain trip; the check of a plan; a flagged trip; the run sheet
pub data Question : Type 0 where
  blocks : (file : List ℕ) → Question
  bordering : (network : List ℕ) → Question
  travel : (network : List ℕ) (road tick : ℕ) → Question
  drives : (network roads : List ℕ) (tick : ℕ) → Question
  opens : (network : List ℕ) → Question
  plain : (network : List ℕ) (from to departure : ℕ) → Question
  checks : (network plan : List ℕ) → Question
  flagged : (network plan : List ℕ) (from to departure : ℕ) → Question
  prints : (network plan input : List ℕ) → Question

-- ANSWERS AS NUMBERS: refusal or 0, three places, the values; and after those of a trip its roads, as many as
-- it counts
abbrev pub numbers_told : says.Says → List ℕ
numbers_told s = s.number ∷ says.numbers_of s

abbrev pub trip_told : Result Arrival Refusal → List ℕ → List ℕ
trip_told a path = numbers_told (trip_says a) ++ take (trip_count a) path

-- the tables that are lent to Open have room for 4 nodes, 4 arcs and 5 points
abbrev pub lent : Tables
lent =
    tables (replicate 4 0) (replicate 4 0) (replicate 4 0) (replicate 4 0) (replicate 4 0) (replicate 4 0)
    (replicate 5 0) (replicate 5 0)

abbrev pub answer_to : Question → List ℕ
answer_to (blocks file) = length file % block_size ∷ length file / block_size ∷ []
answer_to (bordering network) = borders (partition_of (decode network))
answer_to (travel network road tick) = travel_at (decode network) road tick ∷ []
answer_to (drives network roads tick) = driven (graph_of (decode network)) roads tick ∷ []
answer_to (opens network) = numbers_told (opening_says (opening network lent))
answer_to (plain network from to departure) =
    trip_told (plain_call network from to departure) (plain_path network from to departure)
answer_to (checks network plan) = numbers_told (checking_says (checking network plan))
answer_to (flagged network plan from to departure) =
    trip_told (flagged_call network plan from to departure) (flagged_path network plan from to departure)
answer_to (prints network plan input) = sheet_text network plan input

-- a refusal of a call that would give so many values; what an opening and a check grant; a trip's arrival
-- by these roads
abbrev pub refused : ℕ → ℕ → ℕ → ℕ → ℕ → List ℕ
refused count number first second third =
    numbers_told
    (says.refuses count (record { number = number; first = first; second = second; third = third }))

abbrev pub granted : List ℕ → List ℕ
granted values = numbers_told (says.answers values)

abbrev pub arrived : ℕ → List ℕ → List ℕ
arrived tick roads = granted (tick ∷ length roads ∷ []) ++ roads

pub record Row : Type 0 where
  pub question : Question
  pub answer : List ℕ

infix 10 ◌yields◌
abbrev pub ◌yields◌ : Question → List ℕ → Row
q yields a = record { question = q; answer = a }

abbrev pub network : List ℕ
network = network_file 7 (37 ∷ 0 ∷ 214 ∷ 35 ∷ [])

-- place 0's profile, with this first travel
abbrev pub points : ℕ → List ℕ
points first = point 0 first ++ point 7 6 ++ point 8 5 ++ point 9 6

abbrev pub plan : List ℕ
plan = plan_file 3 2 (21 ∷ 0 ∷ 124 ∷ 20 ∷ []) (points 6) (81 ∷ 0 ∷ 100 ∷ 77 ∷ [])

-- a plan that would be true of travels rounded down
abbrev pub rounded_down : List ℕ
rounded_down =
    plan_file 3 2 (21 ∷ 0 ∷ 124 ∷ 20 ∷ []) (point 0 6 ++ point 6 6 ++ point 7 5 ++ point 9 5)
    (78 ∷ 0 ∷ 137 ∷ 74 ∷ [])

unfoldable pub rows : List Row
rows =
    -- four blocks each, and the border
    (blocks network yields 0 ∷ 4 ∷ [])
    ∷ (blocks plan yields 0 ∷ 4 ∷ [])
    ∷ (bordering network yields 2 ∷ [])
    -- road 1 at ticks 0 to 9
    ∷ (travel network 1 0 yields 3 ∷ [])
    ∷ (travel network 1 1 yields 4 ∷ [])
    ∷ (travel network 1 2 yields 5 ∷ [])
    ∷ (travel network 1 3 yields 6 ∷ [])
    ∷ (travel network 1 4 yields 7 ∷ [])
    ∷ (travel network 1 5 yields 7 ∷ [])
    ∷ (travel network 1 6 yields 7 ∷ [])
    ∷ (travel network 1 7 yields 6 ∷ [])
    ∷ (travel network 1 8 yields 5 ∷ [])
    ∷ (travel network 1 9 yields 4 ∷ [])
    -- plain trips; leaving at 7 and at 9 two ways tie, and the one with fewer roads is taken
    ∷ (drives network (0 ∷ 1 ∷ 3 ∷ []) 7 yields 14 ∷ [])
    ∷ (drives network (2 ∷ 3 ∷ []) 7 yields 14 ∷ [])
    ∷ (plain network 0 2 0 yields arrived 6 (2 ∷ []))
    ∷ (plain network 0 2 6 yields arrived 12 (2 ∷ []))
    ∷ (plain network 0 2 9 yields arrived 15 (2 ∷ []))
    ∷ (plain network 0 3 0 yields arrived 7 (2 ∷ 3 ∷ []))
    ∷ (plain network 0 3 1 yields arrived 8 (2 ∷ 3 ∷ []))
    ∷ (plain network 0 3 6 yields arrived 13 (2 ∷ 3 ∷ []))
    ∷ (plain network 0 3 7 yields arrived 14 (2 ∷ 3 ∷ []))
    ∷ (plain network 0 3 8 yields arrived 14 (0 ∷ 1 ∷ 3 ∷ []))
    ∷ (plain network 3 3 4 yields arrived 4 [])
    -- there is no way from 3 to 0, whenever one leaves
    ∷ (plain network 3 0 0 yields refused 2 28 0 0 0)
    ∷ (plain network 3 0 1 yields refused 2 28 0 0 0)
    ∷ (plain network 3 0 2 yields refused 2 28 0 0 0)
    ∷ (plain network 3 0 3 yields refused 2 28 0 0 0)
    ∷ (plain network 3 0 4 yields refused 2 28 0 0 0)
    ∷ (plain network 3 0 5 yields refused 2 28 0 0 0)
    ∷ (plain network 3 0 6 yields refused 2 28 0 0 0)
    ∷ (plain network 3 0 7 yields refused 2 28 0 0 0)
    ∷ (plain network 3 0 8 yields refused 2 28 0 0 0)
    ∷ (plain network 3 0 9 yields refused 2 28 0 0 0)
    -- the second point of road 1 as (5, 7), (5, 8) and (5, 9)
    ∷ (opens network yields granted (9 ∷ 10 ∷ 4 ∷ 4 ∷ 2 ∷ 5 ∷ 0 ∷ []))
    ∷ (opens (network_file 8 (38 ∷ 0 ∷ 203 ∷ 36 ∷ [])) yields granted (9 ∷ 10 ∷ 4 ∷ 4 ∷ 2 ∷ 5 ∷ 0 ∷ []))
    ∷ (opens (network_file 9 (39 ∷ 0 ∷ 192 ∷ 37 ∷ [])) yields refused 7 10 2 0 0)
    -- the plan, and one by travels rounded down; flags 1, 2, 2, 2 and 3, 2, 0, 2; place 0's first travel as
    -- 5 and 7
    ∷ (checks network plan yields granted [])
    ∷ (checks network rounded_down yields refused 0 23 0 0 7)
    ∷ (checks network (plan_file 1 2 (19 ∷ 0 ∷ 136 ∷ 18 ∷ []) (points 6) (81 ∷ 0 ∷ 100 ∷ 77 ∷ []))
    yields refused 0 24 0 0 8)
    ∷ (checks network (plan_file 3 0 (19 ∷ 0 ∷ 152 ∷ 18 ∷ []) (points 6) (81 ∷ 0 ∷ 100 ∷ 77 ∷ []))
    yields refused 0 24 0 0 0)
    ∷ (checks network (plan_file 3 2 (21 ∷ 0 ∷ 124 ∷ 20 ∷ []) (points 5) (80 ∷ 0 ∷ 107 ∷ 76 ∷ []))
    yields refused 0 23 0 0 0)
    ∷ (checks network (plan_file 3 2 (21 ∷ 0 ∷ 124 ∷ 20 ∷ []) (points 7) (82 ∷ 0 ∷ 93 ∷ 78 ∷ []))
    yields refused 0 22 0 0 0)
    -- flagged trips, and the run sheet of two of them
    ∷ (flagged network plan 0 3 6 yields arrived 13 (2 ∷ 3 ∷ []))
    ∷ (flagged network plan 0 3 7 yields arrived 14 (2 ∷ 3 ∷ []))
    ∷ (flagged network plan 0 3 8 yields arrived 14 (0 ∷ 1 ∷ 3 ∷ []))
    ∷ (flagged network plan 3 0 7 yields refused 2 28 0 0 0)
    ∷ (prints network plan (ascii "0 3 7\n3 0 7\n")
    yields ascii "plan accepted\n0 3 7 14 2 2 3\n3 0 7 refused 28\n")
    ∷ []
