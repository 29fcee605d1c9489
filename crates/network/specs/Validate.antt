-- Validation of a network file, refusals 1 to 10 in the order of document 01, and 37 straight after 7: the
-- length, every block's check, the first block's form, the header's limits, the length again, the later
-- blocks' forms, and the rules of the tables. Every whole block is summed before the header is looked at.
use mathlib.Core.{Path.◌≡◌, Path.sym, Path.◌∙◌, Bool.cond, List.List}
use Rattle.std.specs.Prelude.{ℕ, ◌+◌, ◌*◌, ◌/◌, ◌≤◌, ◌<◌, Result, Ok, Err, Option, Some, None, ⊤}
use Rattle.std.proofs.Common.{arith}
use lib.{ListN.length, Dec.ltb, Dec.eqb}
use borrow.Author.Tests.{lt-ltb, le-ltb, eq-eqb, ne_eqb}
use Rattle.theory_loops.specs.Pick.{first_rung}
use Rattle.file_fields.specs.{Fields.le8, Fields.le16, Fields.le32, Block.block_size, Block.head_size}
use Rattle.file_blocks.specs.{Place.blocks, Laid.laid_by, Kind.point_per}
use Rattle.file_forms.specs.Read.{bad}
use Rattle.file_forms.specs.Form.{formed, unformed_or, bad_length, run_taken, run_passed, run_last}
use Rattle.file_refusals.specs.declared.{Refusal.Refusal}
use Rattle.network.specs.declared.header.{Header.Header, Layout.Layout}
use Rattle.network.specs.{Limits.made, Limits.WithinLimits, Limits.made_within, Decode.points_stored}
use Rattle.network.specs.Layout.{arc_block, point_block, all_blocks, layout_of, most_blocks, most_bytes}
use Rattle.network.specs.Decode.{header_at, decode, Laid, laid_blocks, nodes_stored, arcs_stored}
use Rattle.file_refusals.specs.Refusal.{refused}
use Rattle.network.specs.Rules.{judged}
use Rattle.file_blocks.specs.Kind.{network_kind, network_size, arc_kind, arc_size, arc_per, point_kind, point_size}
use Rattle.network.specs.Node.{node_kind, node_size, node_per, node_blocks, node_blocks_most}

-- 7, 37, 8 to 10
abbrev pub validated_rules : Header → Result ⊤ Refusal → Result Header Refusal
validated_rules h (Ok _) = Ok h
validated_rules h (Err r) = Err r

-- the first block after the header that is out of its form, by its number, or the count of blocks
unfoldable pub first_unformed : List ℕ → Header → ℕ
first_unformed file h =
    unformed_or file 1 (node_kind h.hours) (node_per h.hours) (node_size h.hours) h.nodes
    (unformed_or file (arc_block h) arc_kind arc_per arc_size h.arcs
    (unformed_or file (point_block h) point_kind point_per point_size h.points (all_blocks h)))

-- 6: that block
unfoldable pub validated_form : List ℕ → Header → Result Header Refusal
validated_form file h =
    cond (ltb (first_unformed file h) (all_blocks h)) (refused 6 (first_unformed file h))
    (validated_rules h (judged (decode file)))

-- 5: another length than the header calls for
unfoldable pub validated_length : List ℕ → Header → Result Header Refusal
validated_length file h =
    cond (eqb (length file) (block_size * all_blocks h)) (validated_form file h) (refused 5 0)

-- 4: a header outside the limits
abbrev pub validated_header : List ℕ → Option Header → Result Header Refusal
validated_header file (Some h) = validated_length file h
validated_header file None = refused 4 0

abbrev pub made_at : List ℕ → Option Header
made_at file =
    made (le32 file 8) (le16 file 12) (le16 file 14) (le16 file 16) (le16 file 18) (le32 file 20)
    (le8 file 24)

-- 3: the first block is of kind 1, with one entry of 17 bytes
unfoldable pub validated_first : List ℕ → Result Header Refusal
validated_first file =
    cond (formed file 0 network_kind 1 (head_size + network_size)) (validated_header file (made_at file))
    (refused 3 0)

-- 1: no block, a part of a block, or more blocks than any network has; 2: a block's check is wrong
unfoldable pub validated : List ℕ → Result Header Refusal
validated file =
    cond (bad_length most_bytes (length file)) (refused 1 0)
    (first_rung (refused 2) (length file / block_size) (bad file)
    (validated_first file))

-- FOR CODE on a file that is laid out as its header says: where each run ends, and the first block out of
-- its form
module _ {file : List ℕ} {l : Layout} (s : Laid file l) where
  pub nodes_end : l.arcblock ≡ 1 + blocks (node_per l.hours) l.nodes
  unfolding node_blocks
  nodes_end = rw ((laid_blocks s).hours, (laid_blocks s).nodes) (laid_blocks s).arcblock

  pub arcs_end : l.pointblock ≡ l.arcblock + blocks arc_per l.arcs
  arcs_end = omega (arith, laid_blocks s)

  pub points_end : l.blocks ≡ l.pointblock + blocks point_per l.points
  points_end = omega (arith, laid_blocks s)

  pub unformed_told : (r : ℕ) → r
      ≡ unformed_or file 1 (node_kind l.hours) (node_per l.hours) (node_size l.hours) l.nodes
      (unformed_or file l.arcblock arc_kind arc_per arc_size l.arcs
      (unformed_or file l.pointblock point_kind point_per point_size l.points l.blocks))
      → r ≡ first_unformed file (header_at file)
  unfolding first_unformed layout_of
  unformed_told r e = rw s.is at e

-- for `search forms` where that block is looked for
pub ruleset forms = (
  nodes_stored,
  arcs_stored,
  points_stored,
  nodes_end,
  arcs_end,
  points_end,
  unformed_told,
  run_taken,
  run_passed,
  run_last,
)

-- FOR THE LADDER
module _ {file : List ℕ} {l : Layout} (s : Laid file l) (h : Header) (e : h ≡ header_at file) (b : ℕ)
    (r : Result Header Refusal) (f : b ≡ first_unformed file (header_at file)) where
  pub form_taken : b < l.blocks → r ≡ refused 6 b → r ≡ validated_form file h
  unfolding validated_form
  form_taken m g = rw (e, ← f, lt-ltb b (all_blocks (header_at file)) (rw (laid_blocks s).all at m)) g

  pub form_passed : l.blocks ≤ b → r ≡ validated_rules h (judged (decode file)) → r ≡ validated_form file h
  unfolding validated_form
  form_passed m g = rw (e, ← f, le-ltb b (all_blocks (header_at file)) (rw (laid_blocks s).all at m))
      (rw e at g)

-- a file of the length that its header calls for is laid out
pub length_passed : (file : List ℕ) (h : Header) (l : Layout) (r : Result Header Refusal) → l ≡ layout_of h
    → length file ≡ block_size * l.blocks
    → r ≡ validated_form file h → r ≡ validated_length file h
unfolding validated_length layout_of
length_passed file h l r e f g = rw (eq-eqb (length file) (block_size * all_blocks h) (rw e at f)) g

pub length_taken : (file : List ℕ) (h : Header) (l : Layout) (r : Result Header Refusal) → l ≡ layout_of h
    → (length file ≡ block_size * l.blocks → ⊥)
    → r ≡ refused 5 0 → r ≡ validated_length file h
unfolding validated_length layout_of
length_taken file h l r e f g = rw (ne_eqb (length file) (block_size * all_blocks h) (rw e at f)) g

pub now_laid : (file : List ℕ) (h : Header) (l : Layout) → WithinLimits h → h ≡ header_at file → l ≡ layout_of h
    → length file ≡ block_size * l.blocks → Laid file l
unfolding layout_of
now_laid file h l w d e f = laid_by d e w (rw e at f)

-- the header that is made of the first block's numbers
pub header_within : (file : List ℕ) (m : Option Header) (h : Header) → m ≡ made_at file → m ≡ Some h → WithinLimits h
header_within file m h e f = (made_within _ _ _ _ _ _ _ h (sym e ∙ f)).0

pub header_is : (file : List ℕ) (m : Option Header) (h : Header) → m ≡ made_at file → m ≡ Some h → h ≡ header_at file
header_is file m h e f = (made_within _ _ _ _ _ _ _ h (sym e ∙ f)).1

pub header_inside : (file : List ℕ) (m k : Option Header) (h : Header) (r : Result Header Refusal) → m ≡ k → m ≡ Some h
    → r ≡ validated_length file h → r ≡ validated_header file k
header_inside file m k h r e f g = rw (← e, f) g

pub header_outside : (file : List ℕ) (m k : Option Header) (r : Result Header Refusal) → m ≡ k → m ≡ None → r ≡ refused 4 0
    → r ≡ validated_header file k
header_outside file m k r e f g = rw (← e, f) g

pub blocks_few : (h : Header) (l : Layout) → WithinLimits h → l ≡ layout_of h → l.blocks ≤ most_blocks
unfolding layout_of
blocks_few h l w e = rw e (omega (arith, w, node_blocks_most h.hours w.nodes_most))
