-- The arcs that start no least path, told without a look at their ticks: two tables have bounds of each
-- node's row, and an arc whose least travel and the lower bound of its head's row come to more than the upper
-- bound of its tail's gives its tail's number nowhere.
use mathlib.Core.{Path.◌≡◌, Bool.false, List.List}
use Rattle.std.specs.Prelude.{ℕ, ◌+◌, ◌%◌, ◌<◌, get_or}
use native.Mathlib.{Nat.mod-lt, Omega.arith}
use Rattle.theory_loops.specs.Grid.{grid_at}
use Rattle.theory_paths.specs.{Graph.Graph, Least.least_ticks, Planned.starts}
use Rattle.network.specs.declared.header.Layout.{Layout}
use Rattle.network.specs.{Network.tail, Network.head, Decode.decode, Town.graph_of, Town.travel_at}
use Rattle.search_chains.specs.Town.{tail_node, head_node}
use Rattle.toward_row.specs.Arcs.{Primed}
use Rattle.toward_list.specs.{Heights.Bounds, Leasts.LeastTravel, Rows.Worked}
use Rattle.toward_node.specs.Turn.{modest}
use Rattle.toward_start.specs.Start.{gives_is, start_nowhere}

-- FOR CODE at an arc of a town: u is its tail, v its head, and m its least travel
module _ {file : List ℕ} {l : Layout} {first : List ℕ} (t : Primed file l first) {b : ℕ} {W : List ℕ}
    (w : Worked (graph_of (decode file)) b W) {low room : List ℕ} (k : Bounds l W low room)
    {a u v m : ℕ} (h : a < l.arcs) (e : u ≡ tail (decode file) a) (f : v ≡ head (decode file) a)
    (least : LeastTravel file l a m) where
  abbrev g : Graph
  g = graph_of (decode file)

  same : l.period ≡ g.period
  same = t.town.sizes.period

  pub ruled_out : get_or low v 0 < get_or room u 0 + m → false ≡ starts g (least_ticks g b) a
  ruled_out far =
      let arc : a < g.arcs = omega (arith, t.town.sizes.arcs) in
      start_nowhere (modest t.town) w a arc (λ x i q.
      let y = (x + travel_at (decode file) a x) % g.period in
      let j : y < g.period = mod-lt (x + travel_at (decode file) a x) (omega arith) in
      let n : u < l.nodes = tail_node t.town a u h e in
      let there : grid_at l.period W v y ≡ grid_at g.period W (g.head a) y = rw (same, f) in
      let here : grid_at l.period W u x ≡ grid_at g.period W (g.tail a) x = rw (same, e) in
      omega (
        arith,
        gives_is (modest t.town) w a arc x i,
        w.at (g.tail a) x (omega (arith, t.town.sizes.nodes)) i,
        k.low v y (head_node t.town a v h f) (omega (arith, same)),
        k.high u x n (omega (arith, same)),
        least.all x (omega (arith, same)),
      ))
