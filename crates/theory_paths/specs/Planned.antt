-- The flags that a planner gives: an arc has the flag of cell c exactly when both its ends lie in c, or it
-- starts a least path to some border of c at some tick (`planned_exactly`); that is tested on the least
-- travels alone (`starts_exactly`). With true profiles such flags are enough (`planned_enough`) and pass what
-- a check tests (`planned_checked`): every plan so made is accepted.
use mathlib.Core.{Path.◌≡◌}
use Rattle.std.specs.Prelude.{◌⊎◌, Bool, ◌&&◌, ◌||◌, ℕ, ◌<◌, eqb}
use Rattle.theory_loops.specs.First.{any}
use Rattle.theory_paths.specs.Graph.{Graph, all}
use Rattle.theory_paths.specs.Profiles.{StartsLeast}
use Rattle.theory_paths.specs.Flags.{Border}
use Rattle.theory_paths.specs.Least.{Travels, least_ticks}
use Rattle.theory_paths.specs.Settled.{gives_ticks}

-- Arc a gives its tail's number, at tick x, and at some tick.
unfoldable pub starts_at : Graph → Travels → ℕ → ℕ → Bool
starts_at g T a x = eqb (gives_ticks g T a x) (T (g.tail a) x)

abbrev pub starts : Graph → Travels → ℕ → Bool
starts g T a = any g.period (starts_at g T a)

-- Border number i is node `border i`, and there are n of them.
pub record Borders (g : Graph) (cell : ℕ → ℕ) (n : ℕ) (border : ℕ → ℕ) : Type 0 where
  pub is : (i : ℕ) → i < n → Border g cell (border i)
  pub number : (b : ℕ) → Border g cell b → (i : ℕ) × (i < n) × (border i ≡ b)

-- Both ends of arc a lie in cell c.
abbrev pub inside : Graph → (ℕ → ℕ) → ℕ → ℕ → Bool
inside g cell a c = eqb (cell (g.tail a)) c && eqb (cell (g.head a)) c

-- Arc a starts a least path to border number i, which lies in cell c.
abbrev pub leads_to : Graph → (ℕ → ℕ) → (ℕ → ℕ) → ℕ → ℕ → ℕ → Bool
leads_to g cell border a c i = eqb (cell (border i)) c && starts g (least_ticks g (border i)) a

-- Arc a's flag of cell c, by the borders below number n.
unfoldable pub planned : Graph → (ℕ → ℕ) → ℕ → (ℕ → ℕ) → ℕ → ℕ → Bool
planned g cell n border a c = inside g cell a c || any n (leads_to g cell border a c)

-- Flags that are these at the cells of nodes.
pub record Flagged (g : Graph) (cell : ℕ → ℕ) (n : ℕ) (border : ℕ → ℕ) (flag : ℕ → ℕ → Bool) : Type 0 where
  pub same : (a v : ℕ) → a < g.arcs → v < g.nodes → flag a (cell v) ≡ planned g cell n border a (cell v)

-- Arc a starts a least path to b at some tick.
abbrev pub Starts : Graph → ℕ → ℕ → Type 0
Starts g a b = (x : ℕ) × (x < g.period) × StartsLeast g all a (g.tail a) x b

-- Both ends of arc a lie in cell c, or it starts a least path to some border of c at some tick.
abbrev pub Earns : Graph → (ℕ → ℕ) → ℕ → ℕ → Type 0
Earns g cell a c =
    ((cell (g.tail a) ≡ c) × (cell (g.head a) ≡ c))
    ⊎ ((b : ℕ) × Border g cell b × (cell b ≡ c) × Starts g a b)
