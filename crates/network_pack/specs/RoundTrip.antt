-- Both round trips, and what they give together: the files that open are exactly the files of proper, sound
-- networks (`opens_exactly`). They are equations of bytes, so it does no harm that a block's check cannot
-- tell word 0 from word 65,535.
use mathlib.Core.{Path.◌≡◌, Path.sym, Path.◌∙◌, Path.ap, Path.subst, Logic.◌↔◌, List.List}
use Rattle.std.specs.Prelude.{ℕ, zero, suc, ◌+◌, ◌*◌, ◌<◌, length, Ok}
use native.Mathlib.{Omega.arith, Decide.dec_lt}
use Rattle.std.proofs.Math.ListN.{get_or-eq_default}
use Rattle.theory_loops.specs.Fill.{tab, get_or_tab, length_tab}
use Rattle.file_fields.specs.{Fields.Bytes, Block.block_size}
use Rattle.file_blocks.specs.{Place.offset, Table.entry16}
use Rattle.file_write.specs.Bytes.{file_good}
use Rattle.network.specs.declared.header.Header.{Header}
use Rattle.network.specs.{Layout.arc_block, Layout.point_block, Layout.all_blocks, Network.Network}
use Rattle.network.specs.{Node.node_size, Node.node_per, Sound.SoundNetwork, Validate.validated}
use Rattle.network.specs.Decode.{header_at, opens_in, closes_in, decode_by, decode}
use Rattle.network.specs.Valid.{ValidFile}
use Rattle.network.proofs.Valid.{valid_exactly}
use Rattle.network_encode.specs.Encode.{header_of, body_by, encode_by, encode, Words, Proper, held, held_same}
use Rattle.network_pack.specs.Holds.{encode_holds, holds_encode}
use Rattle.network_pack.specs.HoldsRead.{header_formed, nodes_formed, arcs_formed, points_formed}
use Rattle.network_pack.specs.HoldsRead.{header_read, tables_read, formed_holds}
use Rattle.file_blocks.specs.Kind.{hours_size, hours_per, arc_size, arc_per, point_size, point_per}

-- THE FILE OF A NETWORK
pub encode_long : (n : Network) → length (encode n) ≡ block_size * all_blocks (header_of n)
unfolding encode
encode_long n = length_tab _ _

module _ {n : Network} (p : Proper n) where
  pub header_encode : header_at (encode n) ≡ header_of n
  unfolding encode
  header_encode = header_read p.within (encode_holds (header_of n) n) p.number_fits

  -- whatever the hours are, and where they are sound
  pub decode_held : decode (encode n) ≡ held n
  unfolding decode encode
  decode_held = ap (λ (h : Header). decode_by h (encode n)) header_encode
      ∙ tables_read p (encode_holds (header_of n) n)

  pub decode_encode : SoundNetwork n → decode (encode n) ≡ n
  decode_encode s = decode_held ∙ held_same p s.hours

  pub encode_valid : SoundNetwork n → ValidFile (encode n) (header_of n)
  unfolding encode
  encode_valid s =
      let d = encode_holds (header_of n) n in
      record {
        is = sym header_encode;
        within = p.within;
        long = encode_long n;
        sums = file_good (body_by (header_of n) n) (all_blocks (header_of n));
        first_formed_lem = header_formed p.within d;
        nodes_formed = nodes_formed p.within d;
        arcs_formed = arcs_formed p.within d;
        points_formed = points_formed p.within d;
        sound = rw (decode_encode s) s;
      }

-- THE NETWORK OF A FILE
decoded_header : (file : List ℕ) → header_of (decode file) ≡ header_at file
unfolding decode
decoded_header file = λ i. record {
  number = (header_at file).number;
  period = (header_at file).period;
  nodes = length_tab (header_at file).nodes
      (entry16 file 1 (node_per (header_at file).hours) (node_size (header_at file).hours) 0) i;
  arcs = length_tab (header_at file).arcs (entry16 file (arc_block (header_at file)) arc_per arc_size 0) i;
  cells = (header_at file).cells;
  points = length_tab (header_at file).points (entry16 file (point_block (header_at file)) point_per point_size 0)
      i;
  hours = (header_at file).hours;
}

tab_words : (file : List ℕ) → Bytes file → (m from per size at : ℕ)
    → Words (tab m (entry16 file from per size at))
tab_words file s m from per size at = record {
  word = λ k. elim (dec_lt k m) [
    | yes l ↦
        let o = offset from per size k + at in
        rw (get_or_tab m (entry16 file from per size at) k l) (omega (arith, s.byte o, s.byte (o + 1)))
    | no l ↦ rw (get_or-eq_default (tab m (entry16 file from per size at)) 0 {n = k}
        (omega (arith, length_tab m (entry16 file from per size at)))) (omega arith)
  ];
}

module _ {file : List ℕ} {h : Header} (s : Bytes file) (v : ValidFile file h) where
  -- by the header in the file
  there : ValidFile file (header_at file)
  there = subst (λ (k : Header). ValidFile file k) v.is v

  pub encode_decode : encode (decode file) ≡ file
  unfolding encode
  encode_decode =
      ap (λ (k : Header). encode_by k (decode file)) (decoded_header file)
      ∙ sym
      (holds_encode (header_at file) (decode file) file
      (formed_holds file s there.first_formed_lem there.nodes_formed there.arcs_formed
      there.points_formed)
      s
      there.long
      there.sums)

  -- hours fit their fields, or are 0 and the period
  even : (m v : ℕ) → v < 65536 → Words (tab m (λ _. v))
  even m v l = record {
    word = λ k. elim (dec_lt k m) [
      | yes h ↦ rw (get_or_tab m (λ _. v) k h) l
      | no h ↦ rw (get_or-eq_default (tab m (λ _. v)) 0 {n = k} (omega (arith, length_tab m (λ _. v))))
          (omega arith)
    ];
  }

  opens_words : (m hours : ℕ) → Words (tab m (opens_in hours file))
  opens_words m zero = even m 0 (omega arith)
  opens_words m (suc hours) = tab_words file s m 1 hours_per hours_size 2

  closes_words : (m hours : ℕ) → Words (tab m (closes_in hours (header_at file).period file))
  closes_words m zero = even m (header_at file).period (omega (arith, there.within))
  closes_words m (suc hours) = tab_words file s m 1 hours_per hours_size 4

  pub decoded_proper : Proper (decode file)
  unfolding decode
  decoded_proper = record {
    within = rw (decoded_header file) there.within;
    number_fits = omega (arith, s.byte 8, s.byte 9, s.byte 10, s.byte 11);
    opens_long = length_tab _ _ ∙ sym (length_tab _ _);
    closes_long = length_tab _ _ ∙ sym (length_tab _ _);
    heads_long = length_tab _ _ ∙ sym (length_tab _ _);
    counts_long = length_tab _ _ ∙ sym (length_tab _ _);
    travels_long = length_tab _ _ ∙ sym (length_tab _ _);
    cells_fit = tab_words file s _ _ _ _ _;
    opens_fit = opens_words (header_at file).nodes (header_at file).hours;
    closes_fit = closes_words (header_at file).nodes (header_at file).hours;
    tails_fit = tab_words file s _ _ _ _ _;
    heads_fit = tab_words file s _ _ _ _ _;
    counts_fit = tab_words file s _ _ _ _ _;
    ticks_fit = tab_words file s _ _ _ _ _;
    travels_fit = tab_words file s _ _ _ _ _;
  }

-- nothing in a file that opens is left unchecked
pub opens_exactly : (file : List ℕ) → Bytes file
    → ((h : Header) × (validated file ≡ Ok h)) ↔
    ((n : Network) × Proper n × SoundNetwork n × (file ≡ encode n))
opens_exactly file s = (
  λ x. let v = (valid_exactly file x.0).0 x.1 in
      (decode file, decoded_proper s v, v.sound, sym (encode_decode s v)),
  λ x. let (n, p, t, e) = x in (header_of n, (valid_exactly file (header_of n)).1 (rw e (encode_valid p t))),
)
