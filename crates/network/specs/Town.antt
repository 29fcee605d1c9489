-- The graph of a network: its arcs, and their travel on the straight line. The graph of a sound network is
-- lawful, so that all that the theory of paths proves holds of it.
use Rattle.std.specs.Prelude.{ℕ, ◌≤◌}
use Rattle.theory_paths.specs.{Graph.Graph, Graph.Lawful, Graph.Bounded, Graph.ends, Partition.Partition}
use Rattle.theory_travel.specs.Day.{day_value, day_least, day_most, day_fifo}
use Rattle.network.specs.Network.{Network, nodes, arcs, cell, tail, head, count}
use Rattle.network.specs.{Rules.ticks_of, Rules.travels_of, Sound.SoundNetwork}

-- how many ticks arc a takes when it is taken at tick x of the period
unfoldable pub travel_at : Network → ℕ → ℕ → ℕ
travel_at n a x = day_value (ticks_of n a) (travels_of n a) (count n a) n.period x

abbrev pub graph_of : Network → Graph
graph_of n = record {
  period = n.period;
  nodes = nodes n;
  arcs = arcs n;
  tail = tail n;
  head = head n;
  travel = travel_at n;
}

-- the same with the cells of its nodes
abbrev pub partition_of : Network → Partition
partition_of n = record { graph = graph_of n; cell = cell n }

module _ {n : Network} (s : SoundNetwork n) where
  pub town_lawful : 1 ≤ n.period → Lawful (graph_of n)
  unfolding travel_at ends
  town_lawful h = record {
    positive = h;
    tails = λ a l. (s.arc a l).tail_node;
    heads = λ a l. (s.arc a l).head_node;
    takes = λ a x l m. let p = s.points_of a l in day_least p.day (travels_of n a) 1 x p.travel_some m;
    fifo = λ a {x} {y} l m. let p = s.points_of a l in day_fifo p.day (travels_of n a) p.fifo x y m;
  }

  pub town_bounded : Bounded (graph_of n) n.period
  unfolding travel_at
  town_bounded a x l m =
      let p = s.points_of a l in day_most p.day (travels_of n a) n.period x p.travel_most m
