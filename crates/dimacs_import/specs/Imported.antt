-- The network that a text gives: its entries, and that those of an accepted text are proper and sound.
use mathlib.Core.{Path.◌≡◌, Path.sym, Path.◌∙◌, List.List, List.map}
use Rattle.std.specs.Prelude.{Ok, ℕ, ◌-◌, ◌<◌, length, get_or, replicate}
use native.Mathlib.{Decide.dec_lt, Omega.arith}
use Rattle.std.proofs.lemmas.List.{length-map, length-replicate, get_or-replicate}
use Rattle.std.proofs.Math.ListN.{get_or-map}
use lib.{ListN.get_or-eq_default, Dec.lit≤}
use Rattle.text_lines.specs.Lines.{lines_of}
use Rattle.network.specs.declared.header.Header.{Header}
use Rattle.network.specs.Limits.{most_period, WithinLimits}
use Rattle.network.specs.Network.{cell, tail, head, count, tick, travel}
use Rattle.network_encode.specs.Encode.{header_of}
use Rattle.dimacs_line.specs.declared.line.{Sizes.Sizes, Arc.Arc}
use Rattle.dimacs_reading.specs.{Reading.judging, Accepted.SizesWithin, AcceptedExact.accepted_exactly}
use Rattle.dimacs_text.specs.Arcs.{arcs_of, arc_at, nowhere, Fit, text_arcs, text_fit}
use Rattle.dimacs_import.specs.Import.{network_by}

zeros : (n i : ℕ) → get_or {A = ℕ} (replicate n 0) i 0 ≡ 0
zeros n i = elim (dec_lt i n) [
  | yes l ↦ get_or-replicate n i 0 0 l
  | no l ↦ get_or-eq_default (replicate n 0) 0 {n = i} (omega (arith, length-replicate {A = ℕ} n 0))
]

-- THE ENTRIES of nodes, arcs and points
module _ (number nodes : ℕ) (arcs : List Arc) (i : ℕ) where
  pub cell_at : cell (network_by number nodes arcs) i ≡ 0
  cell_at = zeros nodes i

  pub tail_at : tail (network_by number nodes arcs) i ≡ (arc_at arcs i).tail - 1
  tail_at = get_or-map (λ (a : Arc). a.tail - 1) arcs i nowhere

  pub head_at : head (network_by number nodes arcs) i ≡ (arc_at arcs i).head - 1
  head_at = get_or-map (λ (a : Arc). a.head - 1) arcs i nowhere

  pub count_at : i < length arcs → count (network_by number nodes arcs) i ≡ 1
  count_at l = get_or-replicate (length arcs) i 1 0 l

  pub tick_at : tick (network_by number nodes arcs) i ≡ 0
  tick_at = zeros (length arcs) i

  pub travel_at_lem : travel (network_by number nodes arcs) i ≡ (arc_at arcs i).weight
  travel_at_lem = get_or-map (λ (a : Arc). a.weight) arcs i nowhere

-- AN ACCEPTED TEXT: its arcs fit its sizes
pub accepted_fit : (text : List ℕ) (k : Sizes) → judging text ≡ Ok k → Fit k (arcs_of (lines_of text))
accepted_fit text k e =
    let (arcs, t) = (accepted_exactly text k).0 e in
    rw (text_arcs k (lines_of text) arcs t) (text_fit k (lines_of text) arcs t)

-- its header
abbrev pub header_for : ℕ → Sizes → Header
header_for number k = record {
  number = number;
  period = most_period;
  nodes = k.nodes;
  arcs = k.arcs;
  cells = 1;
  points = k.arcs;
  hours = 0;
}

module _ (number : ℕ) (k : Sizes) (arcs : List Arc) (f : Fit k arcs) where
  pub header_is : header_for number k ≡ header_of (network_by number k.nodes arcs)
  header_is =
      let n : k.nodes ≡ length (replicate {A = ℕ} k.nodes 0) = sym (length-replicate k.nodes 0) in
      let a : k.arcs ≡ length (map (λ (a : Arc). a.tail - 1) arcs) = sym (length-map arcs _ ∙ f.long) in
      let q : k.arcs ≡ length (replicate {A = ℕ} (length arcs) 0) =
      sym (length-replicate (length arcs) 0 ∙ f.long) in
      λ i. record {
        number = number;
        period = most_period;
        nodes = n i;
        arcs = a i;
        cells = 1;
        points = q i;
        hours = 0;
      }

pub header_within : (number : ℕ) (k : Sizes) → SizesWithin k → WithinLimits (header_for number k)
header_within number k w = record {
  period_some = lit≤ tt;
  period_most = lit≤ tt;
  nodes_some = w.some;
  nodes_most = w.nodes_few;
  arcs_most = w.arcs_few;
  cells_some = lit≤ tt;
  cells_most = lit≤ tt;
  points_most = omega (arith, w.arcs_few);
  hours_most = lit≤ tt;
}
