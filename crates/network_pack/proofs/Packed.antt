-- What Pack and Open promise together: what Pack writes opens to the same header and tables (`packed_opens`),
-- and a file that opens packs to the same bytes (`opened_packs`).
use mathlib.Core.{Path.◌≡◌, Path.refl, Path.sym, Path.◌∙◌, Path.ap, Path.subst, Path.subst⁻¹, List.List}
use Rattle.file_refusals.specs.Apart.{same_value, not_both}
use Rattle.std.specs.Prelude.{Bool, false, ℕ, ◌^◌, ◌≤◌, ◌<◌, Result, Ok, Err, Option, Some, None, ⊤}
use Rattle.std.proofs.Common.{arith}
use lib.{Dec.ltb, ListN.length, ListN.take, ListN.drop, ListN.length-append, Seq.take_at}
use borrow.Author.Tests.{le-ltb}
use Rattle.theory_loops.specs.{Fill.length_tab, Fill.overwritten, Pick.passed_by_lem}
use Rattle.file_fields.specs.Fields.{Bytes}
use Rattle.file_refusals.specs.declared.{Refusal.Refusal}
use Rattle.network.specs.declared.header.{Header.Header}
use Rattle.network.specs.{Limits.WithinLimits, Limits.made_within, Limits.within_made, Layout.layout_of}
use Rattle.network.specs.{Tables.Tables, Tables.each, Tables.network_of, Rules.judged}
use Rattle.network.specs.{Decode.header_at, Decode.decode, Validate.validated}
use Rattle.network.proofs.Sound.{sound_exactly}
use Rattle.file_refusals.specs.{Refusal.refusal, Writing.written_into}
use Rattle.network.specs.Valid.{ValidFile}
use Rattle.network.proofs.Valid.{valid_exactly}
use Rattle.network_open.specs.Open.{too_short_by, too_short, opened_in, opening}
use Rattle.network_encode.specs.{Encode.header_of, Encode.encode, Encode.Proper, Packable.Packable}
use Rattle.network_pack.specs.RoundTrip.{decode_encode, encode_valid, encode_decode}
use Rattle.network_pack.specs.Pack.{packed_rules, packed_tables, packed_made, made_of, packing}
use Rattle.network_pack.specs.{Pack.now_packable, Proper.Fields, Proper.packed_proper}
use Rattle.network_encode.specs.Written.{packed_header}
use Rattle.network_pack.specs.Packed.{Reopens, Repacks}

-- no refusal packs, so every test on the way was passed
rules_passed : (j : Result ⊤ Refusal) (long room : ℕ) (y : ℕ) → packed_rules j long room ≡ Ok y
    → (j ≡ Ok tt) × (written_into long room ≡ Ok y)
rules_passed (Ok _) long room y e = (refl, e)
rules_passed (Err q) long room y e = not_both q y e

made_passed : (m : Option Header) (t : Tables) (room : ℕ) (y : ℕ) → packed_made m t room ≡ Ok y
    → (h : Header) × (m ≡ Some h) × (packed_tables h t room ≡ Ok y)
made_passed (Some h) t room y e = (h, refl, e)
made_passed None t room y e = not_both (refusal 4 0) y e

module _ (t : Tables) (f : Fields t) (room : ℕ) (y : ℕ) where
  tables_reopen : (h : Header) → WithinLimits h → h.number < 2 ^ 32 → packed_tables h t room ≡ Ok y
      → Reopens h (network_of h t) (encode (network_of h t)) y
  unfolding packed_tables written_into
  tables_reopen h w b e =
      let m = network_of h t in
      let (s, e₁) = passed_by_lem (too_short h t) _ _ (Ok y) (not_both (refusal 30 0) y) e in
      let (j, e₂) = rules_passed (judged m) (length (encode m)) room y e₁ in
      let (_, e₃) = passed_by_lem (ltb room (length (encode m))) _ _ (Ok y) (not_both (refusal 31 0) y)
      e₂ in
      let p : Packable h (layout_of h) t = now_packable h (layout_of h) t _ w b refl refl s in
      let a : Proper m = packed_proper t p f in
      let z = (sound_exactly m).0 j in
      let u : ValidFile (encode m) (header_of m) = encode_valid a z in
      let v : ValidFile (encode m) h = subst (λ (i : Header). ValidFile (encode m) i) (packed_header t p) u in
      let o : validated (encode m) ≡ Ok h = (valid_exactly (encode m) h).1 v in
      record {
        long = sym (same_value (length (encode m)) y e₃);
        opens = λ _ g. rw (o, g);
        tables = decode_encode a z;
      }

  pub packed_opens : (h : Header) → h.number < 2 ^ 32 → packing h t room ≡ Ok y
      → Reopens h (network_of h t) (encode (network_of h t)) y
  packed_opens h b e =
      let (g, i, k) = made_passed (made_of h) t room y e in
      let (w, q) = made_within h.number h.period h.nodes h.arcs h.cells h.points
      h.hours g i in
      tables_reopen h (subst (λ (o : Header). WithinLimits o) q w) b
      (subst (λ (o : Header). packed_tables o t room ≡ Ok y) q k)

open_passed : (o : Result Header Refusal) (short : Header → Bool) (h : Header) → opened_in o short ≡ Ok h → o ≡ Ok h
open_passed (Err r) short h e = not_both r h e
open_passed (Ok k) short h e =
    (passed_by_lem (short k) _ _ (Ok h) (λ g. let z : ◌≡◌ {A = ℕ} 0 1 = cc in omega arith) e).1

front : (m : ℕ) (values old : List ℕ) → length values ≡ m → take m (overwritten values old) ≡ values
front m values old e = take_at values _ m e

roomy : (m : ℕ) (values old : List ℕ) → length values ≡ m → m ≤ length (overwritten values old)
roomy m values old e = omega (arith, length-append values (drop (length values) old))

module _ (file : List ℕ) (s : Bytes file) (t : Tables) where
  abbrev h : Header
  h = header_at file

  -- the tables that Open leaves
  abbrev left : Tables
  left = each overwritten (decode file) t

  -- they give the network back
  again : network_of (header_at file) (each overwritten (decode file) t) ≡ decode file
  unfolding decode
  again = λ i. record {
    number = h.number;
    period = h.period;
    cells = h.cells;
    hours = h.hours;
    cell_of = front h.nodes (decode file).cell_of t.cells (length_tab _ _) i;
    opens = front h.nodes (decode file).opens t.opens (length_tab _ _) i;
    closes = front h.nodes (decode file).closes t.closes (length_tab _ _) i;
    tails = front h.arcs (decode file).tails t.tails (length_tab _ _) i;
    heads = front h.arcs (decode file).heads t.heads (length_tab _ _) i;
    counts = front h.arcs (decode file).counts t.counts (length_tab _ _) i;
    ticks = front h.points (decode file).ticks t.ticks (length_tab _ _) i;
    travels = front h.points (decode file).travels t.travels (length_tab _ _) i;
  }

  not_short : too_short (header_at file) (each overwritten (decode file) t) ≡ false
  unfolding too_short_by decode
  not_short = rw (
    le-ltb _ _ (roomy h.nodes (decode file).cell_of t.cells (length_tab _ _)),
    le-ltb _ _ (roomy h.nodes (decode file).opens t.opens (length_tab _ _)),
    le-ltb _ _ (roomy h.nodes (decode file).closes t.closes (length_tab _ _)),
    le-ltb _ _ (roomy h.arcs (decode file).tails t.tails (length_tab _ _)),
    le-ltb _ _ (roomy h.arcs (decode file).heads t.heads (length_tab _ _)),
    le-ltb _ _ (roomy h.arcs (decode file).counts t.counts (length_tab _ _)),
    le-ltb _ _ (roomy h.points (decode file).ticks t.ticks (length_tab _ _)),
    le-ltb _ _ (roomy h.points (decode file).travels t.travels (length_tab _ _)),
  )

  pub opened_packs : (h : Header) → opening file t ≡ Ok h → (room : ℕ) → length file ≤ room
      → Repacks file h (each overwritten (decode file) t) room
  unfolding packed_tables written_into
  opened_packs h o room l =
      let u : ValidFile file h = (valid_exactly file h).0 (open_passed (validated file) _ h o) in
      let v : ValidFile file (header_at file) = subst (λ (i : Header). ValidFile file i) u.is u in
      subst⁻¹ (λ (i : Header). Repacks file i left room) u.is
      (record {
        answers = rw (
          within_made _ _ _ _ _ _ _ v.within,
          not_short,
          again,
          (sound_exactly (decode file)).1 v.sound,
          encode_decode s v,
          le-ltb room (length file) l,
        );
        bytes = ap encode again ∙ encode_decode s v;
      })
