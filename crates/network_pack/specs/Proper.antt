-- The network that is packed: its file has the length that the layout says, and its numbers fit their fields
-- where the tables are of 16-bit numbers.
use mathlib.Core.{Path.◌≡◌, Path.sym, Path.◌∙◌, Path.ap, Path.subst⁻¹, List.List}
use Rattle.file_refusals.specs.Refusal.{refused}
use Rattle.std.specs.Prelude.{ℕ, ◌*◌, ◌≤◌, ◌<◌, length, take, Result, Ok}
use native.Mathlib.{Omega.arith, Decide.dec_lt}
use Rattle.std.proofs.Common.{length-take, get_or-take, length-take-le}
use Rattle.std.proofs.Math.ListN.{get_or-eq_default}
use Rattle.theory_loops.specs.Fill.{overwritten}
use Rattle.file_fields.specs.Block.{block_size}
use Rattle.file_refusals.specs.Writing.{into_short, into_whole}
use Rattle.network.specs.declared.header.{Header.Header, Layout.Layout}
use Rattle.network.specs.{Limits.WithinLimits, Layout.all_blocks, Layout.LaidBlocks, Layout.layout_blocks}
use Rattle.network.specs.{Network.Network, Tables.Tables, Tables.network_of}
use Rattle.network_encode.specs.{Encode.encode, Encode.Words, Encode.Proper, Packable.Packable}
use Rattle.network_encode.specs.Written.{packed_header}
use Rattle.file_refusals.specs.declared.Refusal.{Refusal}
use Rattle.network_pack.specs.{Pack.WritesNetwork, RoundTrip.encode_long}

-- the entries of the tables have two bytes each
pub record Fields (t : Tables) : Type 0 where
  pub cells_fit : Words t.cells
  pub opens_fit : Words t.opens
  pub closes_fit : Words t.closes
  pub tails_fit : Words t.tails
  pub heads_fit : Words t.heads
  pub counts_fit : Words t.counts
  pub ticks_fit : Words t.ticks
  pub travels_fit : Words t.travels

take_words : (m : ℕ) (s : List ℕ) → Words s → Words (take m s)
take_words m s w = record {
  word = λ k. elim (dec_lt k m) [
    | yes l ↦ rw (get_or-take m s k 0 l) (w.word k)
    | no l ↦ rw (get_or-eq_default (take m s) 0 {n = k} (omega (arith, length-take m s))) (omega arith)
  ];
}

module _ {h : Header} {l : Layout} (t : Tables) (p : Packable h l t) where
  abbrev n : Network
  n = network_of h t

  abbrev q : LaidBlocks h l
  q = layout_blocks p.is

  -- its file has the length that the layout says
  pub packed_long : length (encode (network_of h t)) ≡ block_size * l.blocks
  packed_long = encode_long n
      ∙ (ap (λ (y : Header). block_size * all_blocks y) (packed_header t p)
      ∙ ap (λ (y : ℕ). block_size * y) (sym q.all))

  -- FOR THE CODE, which goes by that length: 31, or the file
  module _ (before : List ℕ) where
    pub room_short : (r : Result ℕ Refusal) → length before < block_size * l.blocks → r ≡ refused 31 0
        → WritesNetwork (network_of h t) before before r
    room_short r k e = into_short _ before r (rw packed_long k) e

    pub room_whole : (after : List ℕ) → block_size * l.blocks ≤ length before
        → after ≡ overwritten (encode (network_of h t)) before
        → WritesNetwork (network_of h t) before after (Ok (block_size * l.blocks))
    room_whole after k e = record {
      answer = ap (λ (y : ℕ). Ok y) (sym packed_long)
          ∙ (into_whole (encode n) before after (rw packed_long k) e).answer;
      written = e;
    }

  module _ (f : Fields t) where
    pub packed_proper : Proper (network_of h t)
    packed_proper = record {
      within = subst⁻¹ (λ (y : Header). WithinLimits y) (packed_header t p) p.within;
      number_fits = p.number_fits;
      opens_long = length-take-le h.nodes t.opens (rw q.nodes at p.room.opens_room)
          ∙ sym (length-take-le h.nodes t.cells (rw q.nodes at p.room.cells_room));
      closes_long = length-take-le h.nodes t.closes (rw q.nodes at p.room.closes_room)
          ∙ sym (length-take-le h.nodes t.cells (rw q.nodes at p.room.cells_room));
      heads_long = length-take-le h.arcs t.heads (rw q.arcs at p.room.heads_room)
          ∙ sym (length-take-le h.arcs t.tails (rw q.arcs at p.room.tails_room));
      counts_long = length-take-le h.arcs t.counts (rw q.arcs at p.room.counts_room)
          ∙ sym (length-take-le h.arcs t.tails (rw q.arcs at p.room.tails_room));
      travels_long = length-take-le h.points t.travels (rw q.points at p.room.travels_room)
          ∙ sym (length-take-le h.points t.ticks (rw q.points at p.room.ticks_room));
      cells_fit = take_words h.nodes t.cells f.cells_fit;
      opens_fit = take_words h.nodes t.opens f.opens_fit;
      closes_fit = take_words h.nodes t.closes f.closes_fit;
      tails_fit = take_words h.arcs t.tails f.tails_fit;
      heads_fit = take_words h.arcs t.heads f.heads_fit;
      counts_fit = take_words h.arcs t.counts f.counts_fit;
      ticks_fit = take_words h.points t.ticks f.ticks_fit;
      travels_fit = take_words h.points t.travels f.travels_fit;
    }
