-- The eight tables of a network as a caller lends them, which may be longer than their counts, and the
-- network of their first entries.
use mathlib.Core.{Path.◌≡◌, List.List}
use Rattle.std.specs.Prelude.{ℕ, take}
use Rattle.network.specs.declared.header.Header.{Header}
use Rattle.network.specs.declared.tables.{LentTables.LentTables, LentTablesMut.LentTablesMut}
use Rattle.network.specs.Network.{Network}

pub record Tables : Type 0 where
  -- for each node its cell, and the ticks at which it opens and closes
  pub cells : List ℕ
  pub opens : List ℕ
  pub closes : List ℕ
  -- for each arc its tail, its head and the count of its points
  pub tails : List ℕ
  pub heads : List ℕ
  pub counts : List ℕ
  -- for each point its tick and its travel
  pub ticks : List ℕ
  pub travels : List ℕ

abbrev pub tables : List ℕ → List ℕ → List ℕ → List ℕ → List ℕ → List ℕ → List ℕ → List ℕ → Tables
tables cells opens closes tails heads counts ticks travels = record {
  cells = cells;
  opens = opens;
  closes = closes;
  tails = tails;
  heads = heads;
  counts = counts;
  ticks = ticks;
  travels = travels;
}

-- the lists that are lent to be read, and to be written
abbrev pub tables_of : LentTables → Tables
tables_of t =
    tables t.cells.now t.opens.now t.closes.now t.tails.now t.heads.now t.counts.now
    t.ticks.now t.travels.now

abbrev pub tables_in : LentTablesMut → Tables
tables_in t =
    tables t.cells.now t.opens.now t.closes.now t.tails.now t.heads.now t.counts.now
    t.ticks.now t.travels.now

-- a call leaves the references where they were, so that what it wrote is in the caller's tables
abbrev pub SameTables : LentTablesMut → LentTablesMut → Type 0
SameTables s t =
    (t.cells.ghost_name ≡ s.cells.ghost_name) × (t.opens.ghost_name ≡ s.opens.ghost_name)
    × (t.closes.ghost_name ≡ s.closes.ghost_name) × (t.tails.ghost_name ≡ s.tails.ghost_name)
    × (t.heads.ghost_name ≡ s.heads.ghost_name) × (t.counts.ghost_name ≡ s.counts.ghost_name)
    × (t.ticks.ghost_name ≡ s.ticks.ghost_name) × (t.travels.ghost_name ≡ s.travels.ghost_name)

-- each table made anew, of the network's and the lent one
abbrev pub each : (List ℕ → List ℕ → List ℕ) → Network → Tables → Tables
each f n t =
    tables (f n.cell_of t.cells) (f n.opens t.opens) (f n.closes t.closes)
    (f n.tails t.tails) (f n.heads t.heads) (f n.counts t.counts)
    (f n.ticks t.ticks) (f n.travels t.travels)

-- the network of a header and of the first entries of the tables
abbrev pub network_of : Header → Tables → Network
network_of h t = record {
  number = h.number;
  period = h.period;
  cells = h.cells;
  hours = h.hours;
  cell_of = take h.nodes t.cells;
  opens = take h.nodes t.opens;
  closes = take h.nodes t.closes;
  tails = take h.arcs t.tails;
  heads = take h.arcs t.heads;
  counts = take h.arcs t.counts;
  ticks = take h.points t.ticks;
  travels = take h.points t.travels;
}
