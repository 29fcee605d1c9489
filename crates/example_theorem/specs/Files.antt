-- The files of Quay town, byte by byte: four blocks each, and a block is its used bytes, zeros up to its
-- check, and the check's four bytes. The variants that document 01 asks about change a number in one block,
-- and with it the block's check: both are arguments.
use Rattle.std.specs.Prelude.{List, [], ◌∷◌, ◌++◌, ℕ, ◌-◌, length, replicate}

abbrev pub block : List ℕ → List ℕ → List ℕ
block used check = used ++ replicate (508 - length used) 0 ++ check

-- the network, with this travel at road 1's second point: its numbers, the places' cells, the roads, and
-- their points
unfoldable pub network_file : ℕ → List ℕ → List ℕ
network_file travel check =
    block
    (1 ∷ 0 ∷ 1 ∷ 0 ∷ 0 ∷ 0 ∷ 0 ∷ 0 ∷ 9 ∷ 0 ∷ 0 ∷ 0 ∷ 10 ∷ 0 ∷ 4 ∷ 0 ∷ 4 ∷ 0 ∷ 2 ∷ 0 ∷ 5 ∷ 0 ∷ 0 ∷ 0
    ∷ [])
    (37 ∷ 0 ∷ 213 ∷ 35 ∷ [])
    ++ block (2 ∷ 0 ∷ 4 ∷ 0 ∷ 1 ∷ 0 ∷ 0 ∷ 0 ∷ 0 ∷ 0 ∷ 0 ∷ 0 ∷ 1 ∷ 0 ∷ 1 ∷ 0 ∷ []) (10 ∷ 0 ∷ 217 ∷ 9 ∷ [])
    ++ block
    (3 ∷ 0 ∷ 4 ∷ 0 ∷ 2 ∷ 0 ∷ 0 ∷ 0 ∷ 0 ∷ 0 ∷ 1 ∷ 0 ∷ 1 ∷ 0 ∷ 1 ∷ 0 ∷ 2 ∷ 0 ∷ 2 ∷ 0 ∷ 0 ∷ 0 ∷ 2 ∷ 0 ∷ 1
    ∷ 0 ∷ 2 ∷ 0 ∷ 3 ∷ 0 ∷ 1 ∷ 0 ∷ [])
    (26 ∷ 0 ∷ 27 ∷ 25 ∷ [])
    ++ block
    (4 ∷ 0 ∷ 5 ∷ 0 ∷ 3 ∷ 0 ∷ 0 ∷ 0 ∷ 0 ∷ 0 ∷ 2 ∷ 0 ∷ 0 ∷ 0 ∷ 3 ∷ 0 ∷ 5 ∷ 0 ∷ travel ∷ 0 ∷ 0 ∷ 0 ∷ 6 ∷ 0
    ∷ 0 ∷ 0 ∷ 1 ∷ 0 ∷ [])
    check

-- a point of a profile
abbrev pub point : ℕ → ℕ → List ℕ
point tick travel = tick ∷ 0 ∷ travel ∷ 0 ∷ 0 ∷ 0 ∷ []

-- the plan, with these flags of road 0 and of road 2, and these four points of place 0: its numbers, the flag
-- words, the profiles' counts, and their points
unfoldable pub plan_file : ℕ → ℕ → List ℕ → List ℕ → List ℕ → List ℕ
plan_file flags₀ flags₂ flagsCheck points pointsCheck =
    block
    (5 ∷ 0 ∷ 1 ∷ 0 ∷ 0 ∷ 0 ∷ 0 ∷ 0 ∷ 9 ∷ 0 ∷ 0 ∷ 0 ∷ 10 ∷ 0 ∷ 4 ∷ 0 ∷ 4 ∷ 0 ∷ 2 ∷ 0 ∷ 1 ∷ 0 ∷ 0 ∷ 0 ∷ 7
    ∷ 0 ∷ 0 ∷ 0 ∷ [])
    (44 ∷ 0 ∷ 155 ∷ 42 ∷ [])
    ++ block
    (6 ∷ 0 ∷ 4 ∷ 0 ∷ 1 ∷ 0 ∷ 0 ∷ 0 ∷ flags₀ ∷ 0 ∷ 0 ∷ 0 ∷ 0 ∷ 0 ∷ 0 ∷ 0 ∷ 2 ∷ 0 ∷ 0 ∷ 0 ∷ 0 ∷ 0 ∷ 0 ∷ 0
    ∷ flags₂ ∷ 0 ∷ 0 ∷ 0 ∷ 0 ∷ 0 ∷ 0 ∷ 0 ∷ 2 ∷ 0 ∷ 0 ∷ 0 ∷ 0 ∷ 0 ∷ 0 ∷ 0 ∷ [])
    flagsCheck
    ++ block (7 ∷ 0 ∷ 4 ∷ 0 ∷ 2 ∷ 0 ∷ 0 ∷ 0 ∷ 4 ∷ 0 ∷ 2 ∷ 0 ∷ 1 ∷ 0 ∷ 0 ∷ 0 ∷ []) (21 ∷ 0 ∷ 174 ∷ 20 ∷ [])
    ++ block
    (8 ∷ 0 ∷ 7 ∷ 0 ∷ 3 ∷ 0 ∷ 0 ∷ 0 ∷ points ++ point 0 3 ++ point 5 7 ++ point 0 0)
    pointsCheck
