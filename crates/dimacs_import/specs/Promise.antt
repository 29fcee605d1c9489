-- What an import is good for: where a text is imported, it is one that the wish describes, and opening the
-- file shows each of its arcs once, in order, nodes lowered by one, its weight the travel at every tick
-- (`imported_opens`); where it is not, the refusal is 35, 36 or 31 (`import_numbers`).
use mathlib.Core.{Path.◌≡◌, Path.refl, Path.sym, Path.◌∙◌, Path.subst⁻¹, Bool.false, Bool.cond}
use mathlib.Core.{Logic.◌⊎◌, Logic.inl, Logic.inr, List.List}
use Rattle.std.specs.Prelude.{Option, Some, None, Result, Ok, Err, ℕ, ◌-◌, ◌^◌, ◌<◌, get_or, take}
use Rattle.std.specs.Option.{option_map_or}
use Rattle.std.proofs.Common.{arith}
use Rattle.std.proofs.Math.ListN.{length, get_or-append}
use Rattle.std.proofs.lemmas.List.{length-map, length-replicate}
use lib.{ListN.get_or-replicate, Seq.take_at, Dec.ltb}
use Rattle.theory_loops.specs.{Fill.overwritten, Pick.cond_holds, Pick.passed_by_lem}
use Rattle.file_refusals.specs.declared.Refusal.{Refusal}
use Rattle.file_refusals.specs.{Refusal.refusal, Writing.written_into}
use Rattle.file_refusals.specs.Apart.{same_value, not_both, same_number}
use Rattle.network.specs.declared.header.Header.{Header}
use Rattle.network.specs.{Limits.most_period, Decode.decode, Network.Network, Tables.Tables, Town.travel_at}
use Rattle.network.specs.{Validate.validated}
use Rattle.network.proofs.Valid.{valid_exactly}
use Rattle.network_open.specs.Open.{too_short, tables_after, OpenCall}
use Rattle.network_encode.specs.Encode.{header_of, encode}
use Rattle.network_pack.specs.RoundTrip.{decode_encode, encode_valid}
use Rattle.text_lines.specs.Lines.{lines_of}
use Rattle.dimacs_line.specs.declared.line.{Sizes.Sizes, Arc.Arc}
use Rattle.dimacs_reading.specs.declared.reading.Reading.{Reading}
use Rattle.dimacs_reading.specs.Reading.{begun, read_all, tellable, unfinished, valued, judged, judging}
use Rattle.dimacs_reading.specs.{Accepted.RoadText, AcceptedExact.accepted_exactly}
use Rattle.dimacs_text.specs.Arcs.{arc_at, Fit, text_arcs, text_fit}
use Rattle.dimacs_import.specs.Import.{network_by, imported, imported_file, answer_by, importing}
use Rattle.dimacs_import.specs.{Import.ImportCall, Imported.header_for, Imported.header_is}
use Rattle.dimacs_import.specs.Imported.{cell_at, tail_at, head_at, count_at, tick_at, travel_at_lem}
use Rattle.dimacs_import.specs.Sound.{imported_proper, imported_sound, imported_travel}

-- the header and the tables that Open leaves, by a text's sizes and roads
pub record OpensTo (number : ℕ) (k : Sizes) (roads : List Arc) (after : Tables) (r : Result Header Refusal) : Type 0 where
  pub opened : r ≡ Ok (header_for number k)
  pub cells : (v : ℕ) → v < k.nodes → get_or after.cells v 0 ≡ 0
  pub open_all_day : (v : ℕ) → v < k.nodes
      → (get_or after.opens v 0 ≡ 0) × (get_or after.closes v 0 ≡ most_period)
  pub tails : (i : ℕ) → i < k.arcs → get_or after.tails i 0 ≡ (arc_at roads i).tail - 1
  pub heads : (i : ℕ) → i < k.arcs → get_or after.heads i 0 ≡ (arc_at roads i).head - 1
  pub counts : (i : ℕ) → i < k.arcs → get_or after.counts i 0 ≡ 1
  pub ticks : (i : ℕ) → i < k.arcs → get_or after.ticks i 0 ≡ 0
  pub travels : (i : ℕ) → i < k.arcs → get_or after.travels i 0 ≡ (arc_at roads i).weight

-- a file that shows a text: its sizes and roads, as the wish describes them; these in any tables that are
-- long enough; and each weight as the travel at every tick
pub record Shows (text : List ℕ) (number : ℕ) (file : List ℕ) : Type 0 where
  pub sizes : Sizes
  pub roads : List Arc
  pub described : RoadText sizes (lines_of text) roads
  pub opens : (before after : Tables) (r : Result Header Refusal) → OpenCall file before after r
      → too_short (header_for number sizes) before ≡ false → OpensTo number sizes roads after r
  pub travels : (i x : ℕ) → i < sizes.arcs → x < most_period
      → travel_at (decode file) i x ≡ (arc_at roads i).weight

-- OPENING the network's file
entry_kept : (values old : List ℕ) (i : ℕ) → i < length values
    → get_or (overwritten values old) i 0 ≡ get_or values i 0
entry_kept values old i l = get_or-append values _ 0 i l

module _ (number : ℕ) (k : Sizes) (roads : List Arc) (f : Fit k roads) (b : number < 2 ^ 32) where
  abbrev n : Network
  n = network_by number k.nodes roads

  valid_opens : validated (encode n) ≡ Ok (header_for number k)
  valid_opens =
      subst⁻¹ (λ (h : Header). validated (encode n) ≡ Ok h) (header_is number k roads f)
      ((valid_exactly (encode n) (header_of n)).1
      (encode_valid (imported_proper number k roads f b) (imported_sound number k roads f)))

  decoded : decode (encode n) ≡ n
  decoded = decode_encode (imported_proper number k roads f b) (imported_sound number k roads f)

  module _ (before after : Tables) (r : Result Header Refusal) (c : OpenCall (encode n) before after r)
      (s : too_short (header_for number k) before ≡ false) where
    is_opened : r ≡ Ok (header_for number k)
    is_opened = c.answer ∙ rw (valid_opens, s)

    tables_are : after ≡ tables_after (Ok (header_for number k)) n before
    tables_are = c.written ∙ rw (is_opened, decoded)

    opens_to : OpensTo number k roads after r
    opens_to =
        let long : length roads ≡ k.arcs = f.long in
        rw tables_are
        (record {
          opened = is_opened;
          cells = λ v l.
              entry_kept n.cell_of _ v (omega (arith, length-replicate {A = ℕ} k.nodes 0))
              ∙ cell_at number k.nodes roads v;
          open_all_day = λ v l. (
            entry_kept n.opens _ v (omega (arith, length-replicate {A = ℕ} k.nodes 0))
                ∙ cell_at number k.nodes roads v,
            entry_kept n.closes _ v (omega (arith, length-replicate {A = ℕ} k.nodes most_period))
                ∙ get_or-replicate k.nodes v most_period 0 l,
          );
          tails = λ i l.
              entry_kept n.tails _ i (omega (arith, length-map roads (λ (a : Arc). a.tail - 1), long))
              ∙ tail_at number k.nodes roads i;
          heads = λ i l.
              entry_kept n.heads _ i (omega (arith, length-map roads (λ (a : Arc). a.head - 1), long))
              ∙ head_at number k.nodes roads i;
          counts = λ i l.
              entry_kept n.counts _ i (omega (arith, length-replicate {A = ℕ} (length roads) 1, long))
              ∙ count_at number k.nodes roads i (omega (arith, long));
          ticks = λ i l.
              entry_kept n.ticks _ i (omega (arith, length-replicate {A = ℕ} (length roads) 0, long))
              ∙ tick_at number k.nodes roads i;
          travels = λ i l.
              entry_kept n.travels _ i (omega (arith, length-map roads (λ (a : Arc). a.weight), long))
              ∙ travel_at_lem number k.nodes roads i;
        })

  shows_network : (text : List ℕ) → RoadText k (lines_of text) roads → Shows text number (encode n)
  shows_network text t = record {
    sizes = k;
    roads = roads;
    described = t;
    opens = opens_to;
    travels = λ i x l m. rw decoded (imported_travel number k roads f i x (omega (arith, f.long)) m);
  }

-- THE CALL: what it leaves where it imports
module _ (text : List ℕ) (number : ℕ) (before after : List ℕ) (y : ℕ)
    (c : ImportCall text number before after (Ok y)) where
  -- the text was accepted
  accepted : (j : Result Sizes Refusal) → judging text ≡ j → (k : Sizes) × (judging text ≡ Ok k)
  accepted (Ok k) e = (k, e)
  accepted (Err q) e = not_both q y (sym (c.answer ∙ rw e))

  -- and its file stands in the first bytes
  front : (k : Sizes) → judging text ≡ Ok k
      → take y after ≡ encode (imported number k.nodes (lines_of text))
  unfolding written_into
  front k e =
      let file = encode (imported number k.nodes (lines_of text)) in
      let a : cond (ltb (length before) (length file)) (Err (refusal 31 0))
      (Ok (length file)) ≡ Ok y = sym (c.answer ∙ rw e) in
      let (_, w) =
      passed_by_lem (ltb (length before) (length file)) _ _ (Ok y) (not_both (refusal 31 0) y) a in
      let long : length file ≡ y = same_value _ y w in
      let left : after ≡ overwritten file before = c.written ∙ rw e in
      rw left (take_at file _ y long)

  pub imported_opens : number < 2 ^ 32 → Shows text number (take y after)
  imported_opens b =
      let (k, e) = accepted (judging text) refl in
      let (roads, t) = (accepted_exactly text k).0 e in
      let arcs = text_arcs k (lines_of text) roads t in
      subst⁻¹ (Shows text number) (front k e)
      (subst⁻¹ (λ (l : List Arc). Shows text number (encode (network_by number k.nodes l))) arcs
      (shows_network number k roads (text_fit k (lines_of text) roads t) b text t))

-- THE NUMBERS of a refusal
abbrev pub ImportNumber : ℕ → Type 0
ImportNumber n = (n ≡ 35) ⊎ ((n ≡ 36) ⊎ (n ≡ 31))

abbrev Fine : Result ℕ Refusal → Type 0
Fine a = (r : Refusal) → a ≡ Err r → ImportNumber r.number

abbrev Sane : Result Sizes Refusal → Type 0
Sane (Ok k) = ℕ
Sane (Err q) = ImportNumber q.number

judged_sane : (r : Reading) → Sane (judged r)
unfolding judged
judged_sane r = cond_holds Sane (unfinished r) _ _ (inl refl) (by r.sizes r.wrong)
  where
    by : (o : Option Sizes) (w : Option ℕ)
        → Sane (option_map_or (valued w) o (Err (refusal 35 (tellable r.lines))))
    by None w = inl refl
    by (Some k) None = 0
    by (Some k) (Some line) = inr (inl refl)

answer_fine : (j : Result Sizes Refusal) → Sane j → (long room : ℕ) → Fine (answer_by j long room)
unfolding written_into
answer_fine (Ok k) s long room =
    cond_holds Fine (ltb room long) _ _ (λ r e. rw (← same_number (refusal 31 0) r e) (inr (inr refl)))
    (λ r e. not_both r long (sym e))
answer_fine (Err q) s long room = λ r e. rw (← same_number q r e) s

pub import_numbers : (text : List ℕ) (number room : ℕ) (r : Refusal) → importing text number room ≡ Err r
    → ImportNumber r.number
import_numbers text number room r e =
    answer_fine (judging text) (judged_sane (read_all begun (lines_of text)))
    (length (imported_file number text)) room r e
