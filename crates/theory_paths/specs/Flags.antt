-- Arc flags. What enough flags are, by document 01's rules (a) and (b) (`EnoughFlags`); then the earliest
-- arrival over the arcs with the flag of the target's cell is the earliest over all arcs (`arc_flags`), and
-- there is a flagged path exactly when there is a path (`arc_flags_reach`). What a check tests is exactly
-- that the profiles are true and the flags enough (`checked_exact`).
use mathlib.Core.{Path.◌≡◌, Bool.Bool, Bool.true}
use Rattle.std.specs.Prelude.{◌≢◌, ℕ, ◌<◌}
use Rattle.theory_paths.specs.Graph.{Graph, Permit}
use Rattle.theory_paths.specs.Profiles.{Profile, Toward, TrueProfile, LocalProfile, Attained}

-- Every node has a cell. A border is a node with an arc into it from another cell.
pub record Border (g : Graph) (cell : ℕ → ℕ) (b : ℕ) : Type 0 where
  pub arc : ℕ
  pub listed : arc < g.arcs
  pub enters : g.head arc ≡ b
  pub crosses : cell (g.tail arc) ≢ cell b

-- Every arc has a flag for each cell. The arcs with the flag of cell c:
abbrev pub flagged : (ℕ → ℕ → Bool) → ℕ → Permit
flagged flag c a = flag a c

-- Rule (a): an arc with both ends in cell c has the flag of c.
abbrev pub FlaggedInside : Graph → (ℕ → ℕ) → (ℕ → ℕ → Bool) → Type 0
FlaggedInside g cell flag = (a c : ℕ) → a < g.arcs → cell (g.tail a) ≡ c → cell (g.head a) ≡ c
    → flag a c ≡ true

-- Rule (b): for each border b in cell c, each other node that can reach b, and each tick, some arc out of the
-- node with the flag of c starts a least path to b.
abbrev pub FlaggedToward : Graph → (ℕ → ℕ) → (ℕ → ℕ → Bool) → Type 0
FlaggedToward g cell flag = (b : ℕ) → Border g cell b → Toward g (flagged flag (cell b)) b

-- Flags are enough.
pub record EnoughFlags (g : Graph) (cell : ℕ → ℕ) (flag : ℕ → ℕ → Bool) : Type 0 where
  pub inside : FlaggedInside g cell flag
  pub toward : FlaggedToward g cell flag

-- The profiles of all borders are true.
abbrev pub TrueProfiles : Graph → (ℕ → ℕ) → (ℕ → Profile) → Type 0
TrueProfiles g cell D = (b : ℕ) → Border g cell b → TrueProfile g b (D b)

-- What a check tests of a plan: rule (a), and at each border the conditions 21 to 23 and, over the arcs with
-- the flag of its cell, 24.
pub record Checked (g : Graph) (cell : ℕ → ℕ) (flag : ℕ → ℕ → Bool) (D : ℕ → Profile) : Type 0 where
  pub inside : FlaggedInside g cell flag
  pub local : (b : ℕ) → Border g cell b → LocalProfile g b (D b)
  pub attained : (b : ℕ) → Border g cell b → Attained g (flagged flag (cell b)) b (D b)
