-- What every reader of arcs rests on: a sound network file with its layout (`Town`). From it: the graph of
-- the file is lawful, and the ends that are read of the file are nodes.
use mathlib.Core.{Path.◌≡◌, List.List}
use Rattle.std.specs.Prelude.{ℕ, ◌^◌, ◌<◌, replicate}
use Rattle.std.proofs.Common.{arith}
use Rattle.theory_paths.specs.Graph.{Lawful}
use Rattle.network.specs.declared.header.Layout.{Layout}
use Rattle.network.specs.{Limits.most_nodes, Limits.most_arcs, Network.tail, Network.head, Sound.SoundNetwork}
use Rattle.network.specs.Decode.{decode, Laid, Sizes, Small, laid_sizes, laid_small}
use Rattle.network.specs.Town.{graph_of, town_lawful}
use Rattle.search_chains.specs.Chain.{Unchained, unchained}

-- A sound network file, laid out as its header says.
pub record Town (file : List ℕ) (l : Layout) : Type 0 where
  pub laid : Laid file l
  pub sound : SoundNetwork (decode file)
  pub sizes : Sizes (decode file) l
  pub small : Small l

-- No arc is taken later, in a search that leaves within the first period: a round number, far above all that
-- nodes and periods within the limits come to and far below never.
abbrev pub last_tick : ℕ
last_tick = 2 ^ 31

pub town_of : {file : List ℕ} {l : Layout} → Laid file l → SoundNetwork (decode file) → Town file l
town_of d s = record { laid = d; sound = s; sizes = laid_sizes d; small = laid_small d }

module _ {file : List ℕ} {l : Layout} (t : Town file l) where
  pub lawful : Lawful (graph_of (decode file))
  lawful = town_lawful t.sound (omega (arith, t.sizes.period, t.small.period_some))

  -- the tables of a chain, before they are filled
  pub fresh_tables : Unchained l.nodes l.arcs (replicate most_nodes most_arcs)
      (replicate most_arcs most_arcs)
  fresh_tables = unchained l.nodes l.arcs t.small.nodes_most t.small.arcs_most

  -- FOR CODE that has read an end of arc a
  pub tail_node : (a v : ℕ) → a < l.arcs → v ≡ tail (decode file) a → v < l.nodes
  tail_node a v h e =
      omega (arith, (t.sound.arc a (omega (arith, t.sizes.arcs))).tail_node, t.sizes.nodes)

  pub head_node : (a v : ℕ) → a < l.arcs → v ≡ head (decode file) a → v < l.nodes
  head_node a v h e =
      omega (arith, (t.sound.arc a (omega (arith, t.sizes.arcs))).head_node, t.sizes.nodes)

-- for `search (town_reads, needs)` where code has read the ends of an arc
pub ruleset town_reads = (tail_node, head_node)
