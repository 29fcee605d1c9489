-- What is read of a plan's file: the tests find every block in its form, `decode_plan` gives the plan back,
-- and validation lets the file of a well-formed plan pass.
use mathlib.Core.{Path.◌≡◌, Path.sym, Path.◌∙◌, Path.ap, Bool.true, List.List}
use Rattle.std.specs.Prelude.{ℕ, ◌+◌, ◌*◌, ◌^◌, ◌<◌}
use Rattle.std.proofs.Common.{arith}
use lib.{ListN.length, ListN.get_or, Dec.lit<, Dec.lit≤}
use Rattle.theory_loops.specs.Fill.{length_tab}
use Rattle.file_fields.specs.Block.{block_size, head_size}
use Rattle.file_fields.specs.Fields.{le16, le16_is, le32_is, le16_number, le32_number, le64_number}
use Rattle.file_write.specs.Bytes.{file_good}
use Rattle.file_blocks.specs.Place.{offset, blocks}
use Rattle.file_forms.specs.Form.{formed, RunFormed}
use Rattle.file_blocks.specs.Kind.{plan_kind, plan_size, flag_kind, flag_per, flag_size, count_kind, count_per}
use Rattle.file_blocks.specs.Kind.{count_size, profile_point_kind, profile_point_per, profile_point_size}
use Rattle.file_write.specs.{Run.RunLaid, RunLaws.file_run, RunLaws.formed_run, RunLaws.run_table}
use Rattle.file_blocks.specs.Table.{entry16, entry32, entry64}
use Rattle.file_frames.specs.Runs.{header_body_lem, first_body, second_body, third_body}
use Rattle.network.specs.declared.header.Header.{Header}
use Rattle.network.specs.{Network.Network, Town.partition_of}
use Rattle.plan.specs.declared.header.PlanHeader.{PlanHeader}
use Rattle.plan.specs.{Border.border_count, Plan.Plan, PlanHeader.plan_header_at, PlanHeader.PlanWithin}
use Rattle.plan.specs.PlanLayout.{profile_count, count_block, plan_point_block, plan_blocks, plan_few}
use Rattle.plan.specs.{PlanDecode.decode_plan, PlanDecode.decode_plan_by, PlanMatch.Matches, PlanValid.ValidPlan}
use Rattle.plan.specs.WellFormed.{WellFormed}
use Rattle.plan_encode.specs.PlanEncode.{plan_header_byte, flag_byte, count_byte, profile_point_byte}
use Rattle.plan_encode.specs.PlanEncode.{plan_shape, plan_body, encode_plan, PlanProper}
use Rattle.plan_encode.specs.PlanEncode.{flag_byte_lem, count_byte_lem, tick_byte, travel_byte}
use Rattle.plan_encode.specs.PlanEncode.{number_byte, period_byte, nodes_byte, arcs_byte, cells_byte}
use Rattle.plan_encode.specs.PlanEncode.{borders_byte, zero_byte, points_byte}

-- THE BLOCKS of the file, each with its head, its entries and zeros after them
module _ (k : PlanHeader) (p : Plan) where
  abbrev H : ℕ → ℕ → ℕ
  H = λ _. plan_header_byte k

  abbrev F : ℕ → ℕ → ℕ
  F = flag_byte p.flag_words

  abbrev C : ℕ → ℕ → ℕ
  C = count_byte p.counts

  abbrev P : ℕ → ℕ → ℕ
  P = profile_point_byte p.ticks p.travels

  header_laid : RunLaid (encode_plan k p) 0 plan_kind 1 plan_size 1 (λ _. plan_header_byte k) 0
  unfolding encode_plan
  header_laid = file_run (plan_body k F C P) (plan_blocks k) 0 plan_kind 1 plan_size 1 H (lit< tt) (lit< tt)
      (lit≤ tt) 0 (omega arith) (header_body_lem (plan_shape k) H F C P 0 (lit< tt))

  flags_laid : (j : ℕ) → j < blocks flag_per k.arcs
      → RunLaid (encode_plan k p) 1 flag_kind flag_per flag_size k.arcs (flag_byte p.flag_words) j
  unfolding encode_plan
  flags_laid j l = file_run (plan_body k F C P) (plan_blocks k) 1 flag_kind flag_per flag_size k.arcs F
      (lit< tt) (lit< tt) (lit≤ tt) j (omega arith)
      (first_body (plan_shape k) H F C P (1 + j) (omega arith) (omega arith))

  counts_laid : (j : ℕ) → j < blocks count_per (profile_count k)
      → RunLaid (encode_plan k p) (count_block k) count_kind count_per count_size (profile_count k)
      (count_byte p.counts) j
  unfolding encode_plan
  counts_laid j l = file_run (plan_body k F C P) (plan_blocks k) (count_block k) count_kind count_per count_size
      (profile_count k) C (lit< tt) (lit< tt) (lit≤ tt) j (omega arith)
      (second_body (plan_shape k) H F C P (count_block k + j) (omega arith) (omega arith))

  points_laid : (j : ℕ) → j < blocks profile_point_per k.points
      → RunLaid (encode_plan k p) (plan_point_block k) profile_point_kind profile_point_per profile_point_size
      k.points (profile_point_byte p.ticks p.travels) j
  unfolding encode_plan
  points_laid j l = file_run (plan_body k F C P) (plan_blocks k) (plan_point_block k) profile_point_kind
      profile_point_per profile_point_size k.points P (lit< tt) (lit< tt) (lit≤ tt) j (omega arith)
      (third_body (plan_shape k) H F C P (plan_point_block k + j) (omega arith))

  pub encode_plan_long : length (encode_plan k p) ≡ block_size * plan_blocks k
  unfolding encode_plan
  encode_plan_long = length_tab _ _

-- WHAT THE TESTS READ: every block in its form, and the header's numbers in its fields
module _ {k : PlanHeader} {p : Plan} (g : PlanProper k p) where
  abbrev file : List ℕ
  file = encode_plan k p

  abbrev w : PlanWithin k
  w = g.within

  abbrev f : k.number < 2 ^ 32
  f = g.number_fits

  first_formed_lem : formed (encode_plan k p) 0 plan_kind 1 (head_size + plan_size) ≡ true
  first_formed_lem = formed_run file 0 plan_kind 1 plan_size 1 (λ _. plan_header_byte k) (lit< tt) (lit< tt)
      (lit≤ tt) 0 (lit< tt) (header_laid k p)

  flags_formed : RunFormed (encode_plan k p) 1 flag_kind flag_per flag_size k.arcs
  flags_formed j l = formed_run file 1 flag_kind flag_per flag_size k.arcs (flag_byte p.flag_words) (lit< tt)
      (lit< tt) (lit≤ tt) j (omega (arith, plan_few w)) (flags_laid k p j l)

  counts_formed : RunFormed (encode_plan k p) (count_block k) count_kind count_per count_size (profile_count k)
  counts_formed j l = formed_run file (count_block k) count_kind count_per count_size (profile_count k)
      (count_byte p.counts) (lit< tt) (lit< tt) (lit≤ tt) j (omega (arith, plan_few w))
      (counts_laid k p j l)

  points_formed : RunFormed (encode_plan k p) (plan_point_block k) profile_point_kind profile_point_per
      profile_point_size k.points
  points_formed j l = formed_run file (plan_point_block k) profile_point_kind profile_point_per profile_point_size
      k.points (profile_point_byte p.ticks p.travels) (lit< tt) (lit< tt) (lit≤ tt) j
      (omega (arith, plan_few w)) (points_laid k p j l)

  byte_at : (at r : ℕ) → at + r < plan_size → get_or (encode_plan k p) (head_size + at + r) 0
      ≡ plan_header_byte k (at + r)
  byte_at at r l =
      let q : head_size + at + r ≡ head_size + (at + r) = omega arith in
      rw q ((header_laid k p).entry 0 (at + r) (lit< tt) l)

  bits_zero : le16 (encode_plan k p) 22 ≡ 0
  bits_zero = le16_is file 22 0 (omega arith) (λ r l. byte_at 14 r (omega arith) ∙ zero_byte k w f r l)

  pub header_encode_plan : plan_header_at (encode_plan k p) ≡ k
  header_encode_plan = λ i. record {
    number = le32_is file 8 k.number f (λ r l. byte_at 0 r (omega arith) ∙ number_byte k w f r l) i;
    period = le16_is file 12 k.period (omega (arith, w))
        (λ r l. byte_at 4 r (omega arith) ∙ period_byte k w f r l) i;
    nodes = le16_is file 14 k.nodes (omega (arith, w))
        (λ r l. byte_at 6 r (omega arith) ∙ nodes_byte k w f r l) i;
    arcs = le16_is file 16 k.arcs (omega (arith, w))
        (λ r l. byte_at 8 r (omega arith) ∙ arcs_byte k w f r l) i;
    cells = le16_is file 18 k.cells (omega (arith, w))
        (λ r l. byte_at 10 r (omega arith) ∙ cells_byte k w f r l) i;
    borders = le16_is file 20 k.borders (omega (arith, w))
        (λ r l. byte_at 12 r (omega arith) ∙ borders_byte k w f r l) i;
    points = le32_is file 24 k.points (omega (arith, w))
        (λ r l. byte_at 16 r (omega arith) ∙ points_byte k w f r) i;
  }

  -- WHAT IS DECODED: the tables, entry by entry
  tables_read : decode_plan_by k (encode_plan k p) ≡ p
  tables_read = λ i. record {
    flag_words = run_table file 1 flag_kind flag_per flag_size k.arcs (flag_byte p.flag_words) (lit< tt)
        (lit< tt) (lit≤ tt) (flags_laid k p) 0 8 (entry64 file 1 flag_per flag_size 0) p.flag_words (lit≤ tt)
        g.flags_long g.flags_fit (λ a. le64_number file (offset 1 flag_per flag_size a + 0))
        (λ a r l. flag_byte_lem p.flag_words a r) i;
    counts = run_table file (count_block k) count_kind count_per count_size (profile_count k)
        (count_byte p.counts) (lit< tt) (lit< tt) (lit≤ tt) (counts_laid k p) 0 2
        (entry16 file (count_block k) count_per count_size 0) p.counts (lit≤ tt) g.counts_long
        g.counts_fit (λ q. le16_number file (offset (count_block k) count_per count_size q + 0))
        (λ q r l. count_byte_lem p.counts q r) i;
    ticks = run_table file (plan_point_block k) profile_point_kind profile_point_per profile_point_size k.points
        (profile_point_byte p.ticks p.travels) (lit< tt) (lit< tt) (lit≤ tt) (points_laid k p) 0 2
        (entry16 file (plan_point_block k) profile_point_per profile_point_size 0) p.ticks (lit≤ tt)
        g.ticks_long g.ticks_fit
        (λ q. le16_number file (offset (plan_point_block k) profile_point_per profile_point_size q + 0))
        (λ q r l. tick_byte p.ticks p.travels q r l) i;
    travels = run_table file (plan_point_block k) profile_point_kind profile_point_per profile_point_size k.points
        (profile_point_byte p.ticks p.travels) (lit< tt) (lit< tt) (lit≤ tt) (points_laid k p) 2 4
        (entry32 file (plan_point_block k) profile_point_per profile_point_size 2) p.travels (lit≤ tt)
        g.travels_long g.travels_fit
        (λ q. le32_number file (offset (plan_point_block k) profile_point_per profile_point_size q + 2))
        (λ q r l. travel_byte p.ticks p.travels q r (g.ticks_fit q)) i;
  }

  pub decode_encode_plan : decode_plan (encode_plan k p) ≡ p
  unfolding decode_plan
  decode_encode_plan =
      ap (λ (h : PlanHeader). decode_plan_by h (encode_plan k p)) header_encode_plan ∙ tables_read

  -- WHAT VALIDATION LETS PASS
  pub encode_valid : {h : Header} {n : Network} → Matches h (border_count (partition_of n)) k → WellFormed n p
      → ValidPlan h n (encode_plan k p) k
  unfolding encode_plan
  encode_valid m v = record {
    is = sym header_encode_plan;
    matches = m;
    long = encode_plan_long k p;
    sums = file_good _ (plan_blocks k);
    first_formed_lem = first_formed_lem;
    bits_zero = bits_zero;
    flags_formed = flags_formed;
    counts_formed = counts_formed;
    points_formed = points_formed;
    well_formed_lem = rw decode_encode_plan v;
  }
