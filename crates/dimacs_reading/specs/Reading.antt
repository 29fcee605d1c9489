-- The text of a road file, line by line: what the lines so far come to, and the judgement once all are read.
-- 35 is at the first line of no shape, at a second `p` line, at an `a` line that no count of arcs covers, or,
-- at the line count, where the `p` line or arcs are missing. It is judged of the whole text before 36, which
-- is at the first line whose sizes, ends or weight are outside what a network may hold.
use mathlib.Core.{Path.◌≡◌, Path.refl, Path.sym, Path.◌∙◌, Path.ap, List.List, List.[], List.◌∷◌}
use Rattle.std.specs.Prelude.{Option, Some, None, is_some, Result, Ok, Err}
use Rattle.std.specs.Option.{option_map_or}
use Rattle.std.specs.Prelude.{Bool, true, false, cond, ◌||◌, ℕ, ◌+◌, ◌-◌, ◌≤◌, ◌<◌, min}
use Rattle.std.proofs.Common.{arith}
use lib.{ListN.length, ListN.take, ListN.drop, Dec.eqb, Dec.leb, Dec.ltb}
use Rattle.theory_loops.specs.Pick.{cond_holds}
use Rattle.file_refusals.specs.declared.Refusal.{Refusal}
use Rattle.file_refusals.specs.Refusal.{refusal}
use Rattle.network.specs.Limits.{most_nodes, most_arcs, most_period}
use Rattle.text_lines.specs.Lines.{lines_of, LineTo, next_line_lem, last_line}
use Rattle.dimacs_line.specs.declared.line.{Sizes.Sizes, Arc.Arc, Shape.Shape}
use Rattle.dimacs_line.specs.declared.line.Shape.TheVariants.{Remark, Other}
use Rattle.dimacs_line.specs.declared.line.Shape.TheVariants.{Sizes as SizesLine, Arc as ArcLine}
use Rattle.dimacs_line.specs.Shape.{shape_of}
use Rattle.dimacs_reading.specs.declared.reading.Reading.{Reading}

-- before the first line
abbrev pub begun : Reading
begun = record { lines = 0; stopped = false; sizes = None; seen = 0; wrong = None }

-- 36: sizes outside the limits; equal ends, an end that is none of the nodes, or a weight that is no travel
unfoldable pub outside : Sizes → Bool
outside k = eqb k.nodes 0 || (ltb most_nodes k.nodes || ltb most_arcs k.arcs)

unfoldable pub misfit : ℕ → Arc → Bool
misfit nodes a =
    eqb a.tail a.head
    || (eqb a.tail 0
    || (ltb nodes a.tail
    || (eqb a.head 0 || (ltb nodes a.head || (eqb a.weight 0 || ltb most_period a.weight)))))

-- the first wrong line: the one that was, or this line where it is at fault
unfoldable pub noted : Option ℕ → ℕ → Bool → Option ℕ
noted None line fault = cond fault (Some line) None
noted (Some wrong) line fault = Some wrong

-- ONE MORE LINE that changes nothing: a remark, or one that is refused as 35
abbrev pub passed_by : Reading → Bool → Reading
passed_by r stopped =
    record { lines = r.lines + 1; stopped = stopped; sizes = r.sizes; seen = r.seen; wrong = r.wrong }

-- the sizes, once; an arc, if there are to be more; and any line by its shape
unfoldable pub sized_by : Reading → Sizes → Reading
sized_by r k =
    cond (is_some r.sizes) (passed_by r true)
    (record {
      lines = r.lines + 1;
      stopped = false;
      sizes = Some k;
      seen = 0;
      wrong = noted r.wrong (r.lines + 1) (outside k);
    })

unfoldable pub arc_within : Reading → Arc → Option Sizes → Reading
arc_within r a None = passed_by r true
arc_within r a (Some k) =
    cond (leb k.arcs r.seen) (passed_by r true)
    (record {
      lines = r.lines + 1;
      stopped = false;
      sizes = r.sizes;
      seen = r.seen + 1;
      wrong = noted r.wrong (r.lines + 1) (misfit k.nodes a);
    })

unfoldable pub arc_by : Reading → Arc → Reading
arc_by r a = arc_within r a r.sizes

unfoldable pub stepped : Reading → Shape → Reading
stepped r Remark = passed_by r false
stepped r (SizesLine k) = sized_by r k
stepped r (ArcLine a) = arc_by r a
stepped r Other = passed_by r true

-- all lines, up to one that is refused
unfoldable pub read_all : Reading → List (List ℕ) → Reading
read_all r [] = r
read_all r (line ∷ lines) = cond r.stopped r (read_all (stepped r (shape_of line)) lines)

-- THE JUDGEMENT of the lines that have been read. A line's number above 32 bits is told as the greatest.
abbrev pub tellable : ℕ → ℕ
tellable line = min line 4294967295

-- the sizes or arcs are missing
abbrev pub missing : Option Sizes → ℕ → Bool
missing None seen = true
missing (Some k) seen = ltb seen k.arcs

unfoldable pub unfinished : Reading → Bool
unfinished r = r.stopped || missing r.sizes r.seen

-- the judgement of a text that is finished: of its values
abbrev pub valued : Option ℕ → Sizes → Result Sizes Refusal
valued None k = Ok k
valued (Some line) k = Err (refusal 36 (tellable line))

unfoldable pub judged : Reading → Result Sizes Refusal
judged r =
    let form = Err (refusal 35 (tellable r.lines)) in
    cond (unfinished r) form (option_map_or (valued r.wrong) r.sizes form)

-- the judgement of a text
abbrev pub judging : List ℕ → Result Sizes Refusal
judging text = judged (read_all begun (lines_of text))

-- FOR THE LOOP over the lines
pub read_stopped : (r : Reading) (lines : List (List ℕ)) → r.stopped ≡ true → read_all r lines ≡ r
unfolding read_all
read_stopped r [] e = refl
read_stopped r (line ∷ lines) e = rw e

pub read_line : (r : Reading) (line : List ℕ) (lines : List (List ℕ)) → r.stopped ≡ false
    → read_all r (line ∷ lines) ≡ read_all (stepped r (shape_of line)) lines
unfolding read_all
read_line r line lines e = rw e

pub read_none : (r : Reading) → read_all r [] ≡ r
unfolding read_all
read_none r = refl

one_more : (r : Reading) (shape : Shape) → (stepped r shape).lines ≡ r.lines + 1
unfolding stepped sized_by arc_by arc_within
one_more r Remark = refl
one_more r (SizesLine k) = cond_holds (λ (x : Reading). x.lines ≡ r.lines + 1) (is_some r.sizes) _ _ refl refl
one_more r (ArcLine a) = by r.sizes
  where
    by : (o : Option Sizes) → (arc_within r a o).lines ≡ r.lines + 1
    by None = refl
    by (Some k) = cond_holds (λ (x : Reading). x.lines ≡ r.lines + 1) (leb k.arcs r.seen) _ _ refl refl
one_more r Other = refl

-- none of the lines before byte `at` is refused as 35, and they come to r
pub record ReadTo (text : List ℕ) (at : ℕ) (r : Reading) : Type 0 where
  pub going : r.stopped ≡ false
  pub few : r.lines ≤ at
  pub near : at ≤ length text + 1
  pub rest : read_all r (lines_of (drop at text)) ≡ read_all begun (lines_of text)

pub read_start : (text : List ℕ) (r : Reading) → r ≡ begun → ReadTo text 0 r
read_start text r e = rw e (record { going = refl; few = omega arith; near = omega arith; rest = refl })

module _ (text : List ℕ) (at end : ℕ) (r s : Reading) (shape : Shape) (h : ReadTo text at r)
    (some : at < length text) (line : LineTo text at end)
    (seen : shape ≡ shape_of (take (end - at) (drop at text))) (step : s ≡ stepped r shape) where
  next : read_all s (lines_of (drop (end + 1) text)) ≡ read_all begun (lines_of text)
  next =
      rw (step, seen)
      (sym (read_line r _ _ h.going) ∙ (rw (next_line_lem text at end line some) at h.rest))

  pub read_on : s.stopped ≡ false → ReadTo text (end + 1) s
  read_on e = record {
    going = e;
    few = omega (arith, h.few, one_more r shape, ap (λ (x : Reading). x.lines) step, line.after);
    near = omega (arith, line.within);
    rest = next;
  }

  pub read_off : s.stopped ≡ true → s ≡ read_all begun (lines_of text)
  read_off e = sym (read_stopped s _ e) ∙ next

pub read_over : (text : List ℕ) (at : ℕ) (r : Reading) → ReadTo text at r → length text ≤ at
    → r ≡ read_all begun (lines_of text)
read_over text at r h l = sym (read_none r) ∙ (rw (last_line text at l) at h.rest)

-- for `search reads`
pub ruleset reads = (read_start, read_on, read_off, read_over)
