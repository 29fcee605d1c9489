-- Profiles to a border. The tests 21 to 24 of document 01 as conditions on a node, its arcs and a tick, the
-- opposite of what each test refuses. 21 to 23 hold everywhere exactly when the profile is the true least
-- travel (`profile_exact`); and then 24 holds everywhere exactly when permitted arcs start least paths from
-- every node at every tick (`toward_exact`).
use mathlib.Core.{Path.◌≡◌, Logic.◌≢◌}
use Rattle.std.specs.Prelude.{List, ◌∷◌, ℕ, ◌+◌, ◌%◌, ◌≤◌, ◌<◌}
use Rattle.theory_paths.specs.Graph.{Graph, Permit, all, ArcFrom, IsPath, driven, EarliestArrival, Reachable}

pub data Travel : Type 0 where
  unreachable : Travel
  ticks : ℕ → Travel

-- A profile to a node b has, for each node u and each tick x of the period, the least travel from u to b
-- leaving at x.
abbrev pub Profile : Type 0
Profile = ℕ → ℕ → Travel

-- A number is the least travel, and where there is no number there is no path.
pub record TrueProfile (g : Graph) (b : ℕ) (D : Profile) : Type 0 where
  pub least : (u x d : ℕ) → u < g.nodes → x < g.period → D u x ≡ ticks d
      → EarliestArrival g all u x b (x + d)
  pub none : (u x : ℕ) → u < g.nodes → x < g.period → D u x ≡ unreachable → ¬ Reachable g all u b

abbrev pub plus : ℕ → Travel → Travel
plus k unreachable = unreachable
plus k (ticks d) = ticks (k + d)

-- At most: `unreachable` is more than any number.
abbrev pub AtMost : Travel → Travel → Type 0
AtMost t unreachable = Unit {0}
AtMost unreachable (ticks d) = ⊥
AtMost (ticks c) (ticks d) = c ≤ d

-- What arc a gives at tick x: its travel, and its head's profile at the tick at which it ends.
abbrev pub gives : Graph → Profile → ℕ → ℕ → Travel
gives g D a x = plus (g.travel a x) (D (g.head a) ((x + g.travel a x) % g.period))

-- (23), and (24) where the flagged arcs are permitted: at any node but b some permitted arc gives the number.
abbrev pub Attained : Graph → Permit → ℕ → Profile → Type 0
Attained g p b D = (u x d : ℕ) → u < g.nodes → x < g.period → u ≢ b → D u x ≡ ticks d
    → (a : ℕ) × ArcFrom g p u a × (gives g D a x ≡ ticks d)

-- (21), (22) and (23)
pub record LocalProfile (g : Graph) (b : ℕ) (D : Profile) : Type 0 where
  pub home : (x : ℕ) → x < g.period → D b x ≡ ticks 0
  pub no_less : (u a x : ℕ) → ArcFrom g all u a → x < g.period → AtMost (D u x) (gives g D a x)
  pub attained : Attained g all b D

-- Arc a, permitted and out of u, starts a least path from u to b that leaves at tick x.
pub record StartsLeast (g : Graph) (p : Permit) (a u x b : ℕ) : Type 0 where
  pub from : ArcFrom g p u a
  pub rest : List ℕ
  pub leads : IsPath g all (g.head a) b rest
  pub least : (w : List ℕ) → IsPath g all u b w → driven g (a ∷ rest) x ≤ driven g w x

-- From every other node that reaches b, at every tick, some permitted arc starts a least path to b.
abbrev pub Toward : Graph → Permit → ℕ → Type 0
Toward g p b = (u x : ℕ) → u < g.nodes → x < g.period → u ≢ b → Reachable g all u b
    → (a : ℕ) × StartsLeast g p a u x b
