-- What a network is: a number, a period, a count of cells, whether its file holds hours, and the eight tables
-- that Open fills and Pack reads. A node is document 01's place, an arc its road; the points of all arcs
-- stand one behind the other, in the order of the arcs.
use Rattle.std.specs.Prelude.{List, ℕ, length, get_or}
use Rattle.theory_loops.specs.Total.{total}

pub record Network : Type 0 where
  pub number : ℕ
  pub period : ℕ
  pub cells : ℕ
  -- 1 where the file holds hours, 0 where it does not
  pub hours : ℕ
  -- for each node its cell, and the ticks at which it opens and closes
  pub cell_of : List ℕ
  pub opens : List ℕ
  pub closes : List ℕ
  -- for each arc its tail, its head and the count of its points
  pub tails : List ℕ
  pub heads : List ℕ
  pub counts : List ℕ
  -- for each point its tick and its travel
  pub ticks : List ℕ
  pub travels : List ℕ

abbrev pub nodes : Network → ℕ
nodes n = length n.cell_of

abbrev pub arcs : Network → ℕ
arcs n = length n.tails

abbrev pub points : Network → ℕ
points n = length n.ticks

-- the entries of node v, arc a and point q
abbrev pub cell : Network → ℕ → ℕ
cell n v = get_or n.cell_of v 0

abbrev pub opens_at : Network → ℕ → ℕ
opens_at n v = get_or n.opens v 0

abbrev pub closes_at : Network → ℕ → ℕ
closes_at n v = get_or n.closes v 0

abbrev pub tail : Network → ℕ → ℕ
tail n a = get_or n.tails a 0

abbrev pub head : Network → ℕ → ℕ
head n a = get_or n.heads a 0

abbrev pub count : Network → ℕ → ℕ
count n a = get_or n.counts a 0

abbrev pub tick : Network → ℕ → ℕ
tick n q = get_or n.ticks q 0

abbrev pub travel : Network → ℕ → ℕ
travel n q = get_or n.travels q 0

-- the first point of arc a: the points of the arcs before it stand before it
unfoldable pub start : Network → ℕ → ℕ
start n a = total a (count n)
