-- The check's tests: 20 at an arc, 21 to 24 at a border number, a node and a tick below the period, each as
-- document 01 words it. What an arc gives at a tick is `gives` of the crate `theory_paths`: its travel there
-- plus its head's profile at the tick at which it ends.
use Rattle.std.specs.Prelude.{Bool, cond, not, ◌&&◌, ℕ, eqb}
use Rattle.theory_loops.specs.First.{any}
use Rattle.theory_paths.specs.{Graph.Permit, Graph.all, Partition.Partition}
use Rattle.theory_paths.specs.Profiles.{Travel, ticks, gives}
use Rattle.plan.specs.Border.{tail_cell, head_cell, border_at}
use Rattle.plan.specs.Plan.{Plan, flag, towards, profile}
use Rattle.plan_values.specs.Compare.{same, less, is_number}

-- 20: both ends of arc a lie in a cell whose flag it lacks
abbrev pub fails20 : Partition → Plan → ℕ → Bool
fails20 G p a = eqb (tail_cell G a) (head_cell G a) && not (flag p a (head_cell G a))

-- what arc a gives at tick x towards border number i
abbrev pub giving : Partition → Plan → ℕ → ℕ → ℕ → Travel
giving G p i a x = gives G.graph (profile G.graph p i) a x

-- some permitted arc out of u gives the profile's value
unfoldable pub given : Partition → Plan → Permit → ℕ → ℕ → ℕ → Bool
given G p permit i u x =
    any G.graph.arcs
    (λ a. permit a && (eqb (G.graph.tail a) u && same (giving G p i a x) (profile G.graph p i u x)))

-- 21: the border's own profile is not 0
abbrev pub fails21 : Partition → Plan → ℕ → ℕ → ℕ → Bool
fails21 G p i u x = eqb u (border_at G i) && not (same (profile G.graph p i u x) (ticks 0))

-- 22: an arc out of u gives less than the profile says
unfoldable pub fails22 : Partition → Plan → ℕ → ℕ → ℕ → Bool
fails22 G p i u x =
    any G.graph.arcs
    (λ a. eqb (G.graph.tail a) u && less (giving G p i a x) (profile G.graph p i u x))

-- 23: the profile is a number, u is not the border, and no arc gives it
abbrev pub fails23 : Partition → Plan → ℕ → ℕ → ℕ → Bool
fails23 G p i u x =
    is_number (profile G.graph p i u x) && (not (eqb u (border_at G i)) && not (given G p all i u x))

-- 24: the profile is a number and arcs give it, none with the flag of the border's cell
abbrev pub fails24 : Partition → Plan → ℕ → ℕ → ℕ → Bool
fails24 G p i u x =
    is_number (profile G.graph p i u x)
    && (given G p all i u x && not (given G p (towards G p (border_at G i)) i u x))

-- the test with this number
unfoldable pub fails : ℕ → Partition → Plan → ℕ → ℕ → ℕ → Bool
fails number G p i u x =
    cond (eqb number 21) (fails21 G p i u x)
    (cond (eqb number 22) (fails22 G p i u x)
    (cond (eqb number 23) (fails23 G p i u x)
    (fails24 G p i u x)))
