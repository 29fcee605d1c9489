-- An arc's entry as it is read by its block and its place there.
use mathlib.Core.{Path.◌≡◌, List.List}
use Rattle.std.specs.Prelude.{ℕ, ◌+◌, ◌*◌, ◌≤◌, ◌<◌}
use native.Mathlib.{Nat.add-zero, Omega.arith}
use lib.{ListN.length, Dec.lit<}
use Rattle.file_fields.specs.{Block.block_size, Block.head_size, Fields.le16}
use Rattle.file_blocks.specs.{Kind.arc_size, Kind.arc_per, Place.offset, Place.offset_at}
use Rattle.network.specs.declared.header.Layout.{Layout}
use Rattle.network.specs.declared.arcs.Entry.{Entry}
use Rattle.network.specs.Network.{Network, tail, head, count}
use Rattle.network.specs.Decode.{decode, Laid, arc_in_lem, tail_is, head_is, count_is}

pub record EntryOf (n : Network) (a : ℕ) (r : Entry) : Type 0 where
  pub tail : r.tail ≡ tail n a
  pub head : r.head ≡ head n a
  pub count : r.count ≡ count n a
  pub small : r.count < 65536

module _ {file : List ℕ} {l : Layout} (d : Laid file l) (j e : ℕ) (m : e < arc_per)
    (k : arc_per * j + e < l.arcs) where
  at : offset l.arcblock arc_per arc_size (arc_per * j + e) ≡ block_size * (l.arcblock + j) + head_size
      + arc_size * e
  at = offset_at l.arcblock arc_per arc_size (lit< tt) j e m

  pub entry_in : block_size * (l.arcblock + j) + head_size + arc_size * e + arc_size ≤ length file
  entry_in = omega (arith, at, (arc_in_lem d k).room)

  pub entry_of : (t h c : ℕ) → t ≡ le16 file (block_size * (l.arcblock + j) + head_size + arc_size * e)
      → h ≡ le16 file (block_size * (l.arcblock + j) + head_size + arc_size * e + 2)
      → c ≡ le16 file (block_size * (l.arcblock + j) + head_size + arc_size * e + 4) → c < 65536
      → EntryOf (decode file) (arc_per * j + e) (record { tail = t; head = h; count = c })
  entry_of t h c p q r s = record {
    tail = tail_is d k (rw (add-zero, at) p);
    head = head_is d k (rw at q);
    count = count_is d k (rw at r);
    small = s;
  }
