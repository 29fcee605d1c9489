-- Least travels to a node b, worked out backwards from b by whole rows: an arc, lowered at all ticks at once,
-- lowers its tail's numbers to what it gives. A node is dirty while its numbers have fallen and the arcs into
-- it have not been lowered since. Arcs that give nothing below a bar may be left out. Where no dirty node has
-- a number below the bar, the numbers up to it are least (`queue_least`), whatever the order in which nodes
-- were taken.
use mathlib.Core.{Path.◌≡◌, Logic.◌≢◌, List.List}
use Rattle.std.specs.Prelude.{ℕ, ◌≤◌, ◌<◌, min}
use lib.{ListN.get_or}
use Rattle.theory_paths.specs.{Graph.Graph}
use Rattle.theory_paths.specs.Least.{Travels}
use Rattle.theory_paths.specs.Settled.{gives_ticks, Sound}

-- U is T with arc a lowered at every tick.
pub record Lowering (g : Graph) (a : ℕ) (T U : Travels) : Type 0 where
  pub at : (x : ℕ) → x < g.period → U (g.tail a) x ≡ min (T (g.tail a) x) (gives_ticks g T a x)
  pub other : (u x : ℕ) → u < g.nodes → x < g.period → u ≢ g.tail a → U u x ≡ T u x

-- The numbers are those of paths, and 0 at b. No arc that gives less than the bar gives less than its tail's
-- numbers, where its head is not dirty; but of the arcs into v that is said only of those below i.
pub record Queue (g : Graph) (b bar v i : ℕ) (T : Travels) (D : List ℕ) : Type 0 where
  pub node : b < g.nodes
  pub sound : Sound g b T
  pub home : (x : ℕ) → x < g.period → T b x ≡ 0
  pub settled : (a x : ℕ) → a < g.arcs → x < g.period → get_or D (g.head a) 0 ≡ 0 → (g.head a ≡ v → a < i)
      → gives_ticks g T a x < bar → T (g.tail a) x ≤ gives_ticks g T a x
