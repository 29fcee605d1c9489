-- Time-dependent graphs, the paths in them, and what it is to arrive earliest. Definitions alone: what every
-- theorem of this crate is about. Document 01's words: a node is a place, an arc a road, a path a way; an
-- earliest arrival is a least arrival.
use mathlib.Core.{Path.◌≡◌, Bool.Bool, Bool.true, List.List, List.[], List.◌∷◌}
use Rattle.std.specs.Prelude.{ℕ, ◌+◌, ◌%◌, ◌≤◌, ◌<◌}

-- Nodes and arcs are numbered from 0. Arc a leads from its tail to its head, and `travel a x` is how many
-- ticks it takes when it is taken at tick x of the period.
pub record Graph : Type 0 where
  pub period : ℕ
  pub nodes : ℕ
  pub arcs : ℕ
  pub tail : ℕ → ℕ
  pub head : ℕ → ℕ
  pub travel : ℕ → ℕ → ℕ

-- The tick at which arc a, taken at tick x, ends. Ticks go on for ever, day after day, and the travel repeats
-- with the period.
unfoldable pub ends : Graph → ℕ → ℕ → ℕ
ends g a x = x + g.travel a (x % g.period)

-- What a graph must meet: arcs join nodes, every arc takes a tick or more, and who takes an arc later never
-- ends earlier (FIFO, over all ticks, the days laid end to end).
pub record Lawful (g : Graph) : Type 0 where
  pub positive : 0 < g.period
  pub tails : (a : ℕ) → a < g.arcs → g.tail a < g.nodes
  pub heads : (a : ℕ) → a < g.arcs → g.head a < g.nodes
  pub takes : (a x : ℕ) → a < g.arcs → x < g.period → 1 ≤ g.travel a x
  pub fifo : (a : ℕ) {x y : ℕ} → a < g.arcs → x ≤ y → ends g a x ≤ ends g a y

-- No arc takes longer than so many ticks.
abbrev pub Bounded : Graph → ℕ → Type 0
Bounded g most = (a x : ℕ) → a < g.arcs → x < g.period → g.travel a x ≤ most

-- Which arcs are permitted; and the permission of all.
abbrev pub Permit : Type 0
Permit = ℕ → Bool

abbrev pub all : Permit
all a = true

-- a is a permitted arc out of u.
pub record ArcFrom (g : Graph) (p : Permit) (u a : ℕ) : Type 0 where
  pub listed : a < g.arcs
  pub permitted : p a ≡ true
  pub leaves : g.tail a ≡ u

-- The list of arcs is a permitted path from s to t: the empty list from a node to itself, else a permitted
-- arc out of s and a path from its head.
pub data IsPath (g : Graph) (p : Permit) : ℕ → ℕ → List ℕ → Type 0 where
  stop : {s t : ℕ} → s ≡ t → IsPath g p s t []
  step : {s t a : ℕ} {w : List ℕ} → ArcFrom g p s a → IsPath g p (g.head a) t w → IsPath g p s t (a ∷ w)

-- The tick at which a list of arcs, driven from tick x with no wait, ends.
abbrev pub driven : Graph → List ℕ → ℕ → ℕ
driven g [] x = x
driven g (a ∷ w) x = driven g w (ends g a x)

-- The same with waits: before each arc the next number of ticks of the list is stood, and none once the list
-- has run out.
abbrev pub waited : Graph → List ℕ → List ℕ → ℕ → ℕ
waited g [] ds x = x
waited g (a ∷ w) [] x = waited g w [] (ends g a x)
waited g (a ∷ w) (d ∷ ds) x = waited g w ds (ends g a (x + d))

-- Some permitted path leads from s to t.
pub record Reachable (g : Graph) (p : Permit) (s t : ℕ) : Type 0 where
  pub path : List ℕ
  pub leads : IsPath g p s t path

-- Some permitted path from s to t, driven from tick x, ends at b.
pub record Arrival (g : Graph) (p : Permit) (s x t b : ℕ) : Type 0 where
  pub path : List ℕ
  pub leads : IsPath g p s t path
  pub at : driven g path x ≡ b

-- Some permitted path from s to t, driven from tick x, ends at b, and none ends before b.
pub record EarliestArrival (g : Graph) (p : Permit) (s x t b : ℕ) : Type 0 where
  pub arrival : Arrival g p s x t b
  pub least : (w : List ℕ) → IsPath g p s t w → b ≤ driven g w x
