-- What a plan is: a flag word for each arc, and for each border and each node a profile, the points of all
-- profiles one behind the other. Profile number i × nodes + u is that of border number i and node u.
use mathlib.Core.{Bool.Bool, Bool.cond, List.List}
use Rattle.std.specs.Prelude.{ℕ, ◌+◌, ◌*◌, ◌/◌, ◌%◌, ◌^◌}
use lib.{ListN.get_or, Dec.eqb}
use Rattle.theory_loops.specs.Total.{total}
use Rattle.theory_paths.specs.{Graph.Graph, Graph.Permit, Partition.Partition, Flags.flagged}
use Rattle.theory_paths.specs.Profiles.{Travel, unreachable, ticks, Profile}
use Rattle.theory_travel.specs.{Day.day_value, Table.entry_at}
use Rattle.plan.specs.Border.{border_index}

pub record Plan : Type 0 where
  pub flag_words : List ℕ
  pub counts : List ℕ
  pub ticks : List ℕ
  pub travels : List ℕ

-- arc a has the flag of cell c: bit c of its flag word
abbrev pub bit : ℕ → ℕ → Bool
bit word c = eqb (word / 2 ^ c % 2) 1

abbrev pub flag : Plan → ℕ → ℕ → Bool
flag p a c = bit (get_or p.flag_words a 0) c

-- the arcs that a flagged trip to node t may take: those with the flag of its cell
abbrev pub towards : Partition → Plan → ℕ → Permit
towards G p t = flagged (flag p) (G.cell t)

-- profile number k: how many points it has, where they start, their ticks and travels
abbrev pub point_count : Plan → ℕ → ℕ
point_count p k = get_or p.counts k 0

unfoldable pub point_start : Plan → ℕ → ℕ
point_start p k = total k (point_count p)

abbrev pub point_ticks : Plan → ℕ → ℕ → ℕ
point_ticks p k = entry_at p.ticks (point_start p k)

abbrev pub point_travels : Plan → ℕ → ℕ → ℕ
point_travels p k = entry_at p.travels (point_start p k)

-- its value at a tick below the period: never where it has no points, else on the line
unfoldable pub profile_value : ℕ → Plan → ℕ → ℕ → Travel
profile_value period p k x =
    cond (eqb (point_count p k) 0) unreachable
    (ticks (day_value (point_ticks p k) (point_travels p k) (point_count p k) period x))

-- the profile to border number i, and to the border b
abbrev pub profile : Graph → Plan → ℕ → Profile
profile g p i u x = profile_value g.period p (i * g.nodes + u) x

abbrev pub profile_to : Partition → Plan → ℕ → Profile
profile_to G p b = profile G.graph p (border_index G b)
