-- What the rules 7 to 10 and 37 ask of a network, said of its nodes, arcs and points (`SoundNetwork`). The
-- ladder of tests judges a network sound exactly when this holds (`sound_exactly`).
use mathlib.Core.{Path.◌≡◌, Logic.◌≢◌}
use Rattle.std.specs.Prelude.{ℕ, ◌≤◌, ◌<◌}
use Rattle.theory_travel.specs.{Points.Fifo, Day.Day, Day.closed}
use Rattle.network.specs.Network.{Network, nodes, arcs, points, cell, opens_at, closes_at, tail, head}
use Rattle.network.specs.Network.{count, start}
use Rattle.network.specs.Rules.{ticks_of, travels_of}

-- 8, of arc a
pub record SoundArc (n : Network) (a : ℕ) : Type 0 where
  pub tail_node : tail n a < nodes n
  pub head_node : head n a < nodes n
  pub apart : tail n a ≢ head n a
  pub some : 1 ≤ count n a
  pub most : count n a ≤ n.period

-- 9 and 10, of the points of arc a: a day's ticks, travels from 1 to the period, and FIFO, the wrap included
pub record SoundPoints (n : Network) (a : ℕ) : Type 0 where
  pub day : Day (ticks_of n a) (count n a) n.period
  pub travel_some : (i : ℕ) → i < count n a → 1 ≤ travels_of n a i
  pub travel_most : (i : ℕ) → i < count n a → travels_of n a i ≤ n.period
  pub fifo : Fifo (closed (count n a) (ticks_of n a) n.period)
      (closed (count n a) (travels_of n a) (travels_of n a 0)) (count n a)

-- 37, of node v: it opens before it closes, by the end of the period; where no hours are held it is open all
-- day
pub record SoundHours (n : Network) (v : ℕ) : Type 0 where
  pub some : opens_at n v < closes_at n v
  pub within : closes_at n v ≤ n.period
  pub all_day : n.hours ≡ 0 → (opens_at n v ≡ 0) × (closes_at n v ≡ n.period)

pub record SoundNetwork (n : Network) : Type 0 where
  pub cells_below : (v : ℕ) → v < nodes n → cell n v < n.cells
  pub hours : (v : ℕ) → v < nodes n → SoundHours n v
  pub arc : (a : ℕ) → a < arcs n → SoundArc n a
  pub sum : start n (arcs n) ≡ points n
  pub points_of : (a : ℕ) → a < arcs n → SoundPoints n a
