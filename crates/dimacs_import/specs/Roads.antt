-- The file of a network whose arcs are noted in tables, and that those of an accepted text make the network
-- that the text gives.
use mathlib.Core.{Path.◌≡◌, Path.refl, Path.sym, Path.◌∙◌, Path.ap, List.List, List.◌∷◌}
use Rattle.std.specs.Prelude.{ℕ, zero, suc, ◌-◌, ◌*◌, ◌^◌, ◌≤◌, ◌<◌, length, get_or, take, replicate}
use Rattle.std.specs.Prelude.{Result, Ok}
use Rattle.std.proofs.Common.{arith, length-take-le, get_or-take, ext_get_or}
use Rattle.std.proofs.lemmas.List.{length-map, length-replicate}
use Rattle.theory_loops.specs.Fill.{overwritten}
use Rattle.file_fields.specs.Block.{block_size}
use Rattle.file_refusals.specs.declared.Refusal.{Refusal}
use Rattle.file_refusals.specs.Refusal.{refused}
use Rattle.file_refusals.specs.Writing.{written_into, Writes, into_short, into_whole}
use Rattle.text_lines.specs.Lines.{lines_of}
use Rattle.network.specs.declared.header.Layout.{Layout}
use Rattle.network.specs.{Limits.most_nodes, Limits.most_arcs, Limits.most_period, Validate.blocks_few}
use Rattle.network.specs.Layout.{layout_of, layout_blocks, most_blocks}
use Rattle.network.specs.Network.{tail, head, travel}
use Rattle.network.specs.Tables.{Tables, tables, network_of}
use Rattle.network_encode.specs.{Encode.encode, Packable.Packable}
use Rattle.network_pack.specs.Proper.{packed_long}
use Rattle.dimacs_line.specs.declared.line.{Sizes.Sizes, Arc.Arc}
use Rattle.dimacs_reading.specs.{Accepted.SizesWithin, Reading.judging}
use Rattle.dimacs_text.specs.{Arcs.arcs_of, Arcs.arc_at, Arcs.Fit, Noting.JudgedInto}
use Rattle.dimacs_text.specs.declared.roads.Roads.{Roads}
use Rattle.dimacs_text.specs.Noting.{lowered, shortened, tail_of, head_of, travel_of}
use Rattle.dimacs_text.specs.Noting.{TablesLong, Column, Noted}
use Rattle.dimacs_import.specs.Import.{network_by, ImportCall, import_accepted}
use Rattle.dimacs_import.specs.Imported.{tail_at, head_at, travel_at_lem, accepted_fit, header_for}
use Rattle.dimacs_import.specs.Imported.{header_within}

-- each node in cell 0 and open all day, and each arc with one point, at tick 0
abbrev pub road_tables : Roads → Tables
road_tables roads =
    tables (replicate most_arcs 0) (replicate most_arcs 0) (replicate most_nodes most_period) roads.tails
    roads.heads (replicate most_arcs 1) (replicate most_arcs 0) roads.travels

abbrev pub roads_file : ℕ → Sizes → Roads → List ℕ
roads_file number k roads = encode (network_of (header_for number k) (road_tables roads))

pub roads_few : (number : ℕ) (k : Sizes) (l : Layout) → SizesWithin k → l ≡ layout_of (header_for number k)
    → l.blocks ≤ most_blocks
roads_few number k l w is = blocks_few (header_for number k) l (header_within number k w) is

-- FOR THE CODE: its writing
module _ (number : ℕ) (k : Sizes) (l : Layout) (roads : Roads) (w : SizesWithin k)
    (t : TablesLong roads) (b : number < 2 ^ 32) (is : l ≡ layout_of (header_for number k)) where
  pub roads_packable : Packable (header_for number k) l (road_tables roads)
  roads_packable =
      let q = layout_blocks is in
      let zeros = length-replicate {A = ℕ} most_arcs 0 in
      let ones = length-replicate {A = ℕ} most_arcs 1 in
      let ends = length-replicate {A = ℕ} most_nodes most_period in
      record {
        within = header_within number k w;
        number_fits = b;
        is = is;
        room = record {
          cells_room = omega (arith, q.nodes, w.nodes_few);
          opens_room = omega (arith, q.nodes, w.nodes_few);
          closes_room = omega (arith, q.nodes, w.nodes_few);
          tails_room = omega (arith, q.arcs, w.arcs_few, t.tails_long);
          heads_room = omega (arith, q.arcs, w.arcs_few, t.heads_long);
          counts_room = omega (arith, q.arcs, w.arcs_few);
          ticks_room = omega (arith, q.points, w.arcs_few);
          travels_room = omega (arith, q.points, w.arcs_few, t.travels_long);
        };
      }

  pub roads_long : block_size * l.blocks ≡ length (roads_file number k roads)
  roads_long = sym (packed_long (road_tables roads) roads_packable)

  module _ (before : List ℕ) where
    pub roads_short : (r : Result ℕ Refusal) → length before < block_size * l.blocks → r ≡ refused 31 0
        → Writes (written_into (length (roads_file number k roads)) (length before))
        (roads_file number k roads) before before r
    roads_short r m e = into_short (roads_file number k roads) before r (rw roads_long at m) e

    pub roads_whole : (after : List ℕ) → block_size * l.blocks ≤ length before
        → after ≡ overwritten (roads_file number k roads) before
        → Writes (written_into (length (roads_file number k roads)) (length before))
        (roads_file number k roads) before after
        (Ok (block_size * l.blocks))
    roads_whole after m e =
        rw roads_long
        (into_whole (roads_file number k roads) before after (rw roads_long at m) e)

-- AN ACCEPTED TEXT: a column of a table is the network's list, where each number fits its entry
take_alike : (n m v : ℕ) → n ≤ m → take n (replicate {A = ℕ} m v) ≡ replicate n v
take_alike zero m v l = refl
take_alike (suc n) zero v l = absurd (omega arith)
take_alike (suc n) (suc m) v l = ap (λ (s : List ℕ). v ∷ s) (take_alike n m v (omega arith))

module _ (number : ℕ) (k : Sizes) (arcs : List Arc) (f : Fit k arcs) where
  column_is : (g : Arc → ℕ) (table list : List ℕ) → Column g arcs k.arcs table → length list ≡ length arcs
      → ((i : ℕ) → i < length arcs → g (arc_at arcs i) ≡ get_or list i 0) → take k.arcs table ≡ list
  column_is g table list c l same =
      let few = f.within.arcs_few in
      let long = length-take-le k.arcs table (omega (arith, c.long)) in
      ext_get_or 0 (take k.arcs table) list (long ∙ sym (l ∙ f.long))
      (λ i m.
      let n : i < k.arcs = omega arith in
      get_or-take k.arcs table i 0 n
      ∙ (c.entry i n (omega arith) ∙ same i (omega (arith, f.long))))

  tail_is : (i : ℕ) → i < length arcs → tail_of (arc_at arcs i) ≡ tail (network_by number k.nodes arcs) i
  tail_is i l =
      let a = f.fits i l in
      let z : lowered (arc_at arcs i).tail ≡ (arc_at arcs i).tail - 1 =
      omega (arith, a.tail_first, a.tail_last, f.within.nodes_few) in
      z ∙ sym (tail_at number k.nodes arcs i)

  head_is : (i : ℕ) → i < length arcs → head_of (arc_at arcs i) ≡ head (network_by number k.nodes arcs) i
  head_is i l =
      let a = f.fits i l in
      let z : lowered (arc_at arcs i).head ≡ (arc_at arcs i).head - 1 =
      omega (arith, a.head_first, a.head_last, f.within.nodes_few) in
      z ∙ sym (head_at number k.nodes arcs i)

  travel_is : (i : ℕ) → i < length arcs
      → travel_of (arc_at arcs i) ≡ travel (network_by number k.nodes arcs) i
  travel_is i l =
      let z : shortened (arc_at arcs i).weight ≡ (arc_at arcs i).weight =
      omega (arith, (f.fits i l).weight_most) in
      z ∙ sym (travel_at_lem number k.nodes arcs i)

  pub roads_network : (roads : Roads) → Noted arcs k.arcs roads
      → network_of (header_for number k) (road_tables roads) ≡ network_by number k.nodes arcs
  roads_network roads t =
      let w = f.within in
      let zeros : take k.nodes (replicate {A = ℕ} most_arcs 0) ≡ replicate k.nodes 0 =
      take_alike k.nodes most_arcs 0 (omega (arith, w.nodes_few)) in
      let ends : take k.nodes (replicate {A = ℕ} most_nodes most_period) ≡ replicate k.nodes most_period =
      take_alike k.nodes most_nodes most_period w.nodes_few in
      let ones : take k.arcs (replicate {A = ℕ} most_arcs 1) ≡ replicate (length arcs) 1 =
      take_alike k.arcs most_arcs 1 w.arcs_few ∙ rw f.long in
      let ticks : take k.arcs (replicate {A = ℕ} most_arcs 0) ≡ replicate (length arcs) 0 =
      take_alike k.arcs most_arcs 0 w.arcs_few ∙ rw f.long in
      let n = network_by number k.nodes arcs in
      λ i. record {
        number = number;
        period = most_period;
        cells = 1;
        hours = 0;
        cell_of = zeros i;
        opens = zeros i;
        closes = ends i;
        tails = column_is tail_of roads.tails n.tails t.tails_are (length-map arcs _) tail_is i;
        heads = column_is head_of roads.heads n.heads t.heads_are (length-map arcs _) head_is i;
        counts = ones i;
        ticks = ticks i;
        travels = column_is travel_of roads.travels n.travels t.travels_are (length-map arcs _) travel_is i;
      }

-- THE CALL, where a text is accepted
pub roads_imported : (text : List ℕ) (number : ℕ) (k : Sizes) (roads : Roads) (before after : List ℕ)
    (j : Result Sizes Refusal) (r : Result ℕ Refusal) → JudgedInto text j roads → j ≡ Ok k
    → Writes (written_into (length (roads_file number k roads)) (length before))
    (roads_file number k roads) before after r
    → ImportCall text number before after r
roads_imported text number k roads before after j r h e w =
    let a : judging text ≡ Ok k = sym h.told ∙ e in
    import_accepted text number before k a (roads_file number k roads)
    (ap encode
    (roads_network number k (arcs_of (lines_of text)) (accepted_fit text k a) roads
    (h.noted k e)))
    after r w

pub accepted_within : (text : List ℕ) (k : Sizes) (roads : Roads) (j : Result Sizes Refusal)
    → JudgedInto text j roads → j ≡ Ok k → SizesWithin k × TablesLong roads
accepted_within text k roads j h e = (
  (accepted_fit text k (sym h.told ∙ e)).within,
  record {
    tails_long = (h.noted k e).tails_are.long;
    heads_long = (h.noted k e).heads_are.long;
    travels_long = (h.noted k e).travels_are.long;
  },
)
