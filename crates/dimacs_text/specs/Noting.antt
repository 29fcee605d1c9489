-- The arcs of a text, noted in three tables as its lines are read: an arc's entry is a number of 16 bits for
-- each end, lowered by one, and for its weight.
use mathlib.Core.{Path.◌≡◌, Path.refl, Path.sym, Path.◌∙◌, Path.ap, Path.subst⁻¹, List.List, List.◌∷◌}
use Rattle.std.specs.Prelude.{Option, Some, None, is_some, Result, Ok}
use Rattle.std.specs.Prelude.{Bool, true, false, cond, ℕ, suc, ◌+◌, ◌%◌, ◌≤◌, ◌<◌, length, get_or, set}
use native.Mathlib.{Decide.ℕ_discrete, Omega.arith}
use Rattle.std.proofs.Math.ListN.{drop, length-set}
use Rattle.std.proofs.Common.{length-drop}
use lib.{Seq.drop-cons, Seq.get_or-set_same, Seq.get_or-set_other, Dec.leb}
use borrow.Author.Tests.{ltb-false}
use Rattle.theory_loops.specs.Pick.{or_passed}
use Rattle.file_refusals.specs.declared.Refusal.{Refusal}
use Rattle.network.specs.Limits.{most_arcs}
use Rattle.text_lines.specs.Lines.{lines_of, next_line_lem}
use Rattle.dimacs_line.specs.declared.line.{Sizes.Sizes, Arc.Arc, Shape.Shape}
use Rattle.dimacs_line.specs.declared.line.Shape.TheVariants.{Remark, Other}
use Rattle.dimacs_line.specs.declared.line.Shape.TheVariants.{Sizes as SizesLine, Arc as ArcLine}
use Rattle.dimacs_line.specs.declared.next.Line.{Line}
use Rattle.dimacs_line.specs.Next.{NextLine}
use Rattle.dimacs_reading.specs.declared.reading.Reading.{Reading}
use Rattle.dimacs_reading.specs.Reading.{begun, passed_by, sized_by, arc_within, arc_by, stepped}
use Rattle.dimacs_reading.specs.Reading.{unfinished, judged, read_all, judging}
use Rattle.dimacs_reading.specs.AcceptedExact.{refused_only, right_only}
use Rattle.dimacs_text.specs.declared.roads.Roads.{Roads}
use Rattle.dimacs_text.specs.Arcs.{arc_first, arcs_of, arc_at, nowhere}

-- an end lowered by one, and a weight, in 16 bits; and so an arc's three entries
abbrev pub lowered : ℕ → ℕ
lowered end = (end + 65535) % 65536

abbrev pub shortened : ℕ → ℕ
shortened weight = weight % 65536

abbrev pub tail_of : Arc → ℕ
tail_of a = lowered a.tail

abbrev pub head_of : Arc → ℕ
head_of a = lowered a.head

abbrev pub travel_of : Arc → ℕ
travel_of a = shortened a.weight

-- a table after a line of this shape, where the next arc is arc i
abbrev pub entered : (Arc → ℕ) → Shape → ℕ → List ℕ → List ℕ
entered f Remark i table = table
entered f (SizesLine k) i table = table
entered f (ArcLine a) i table = set table i (f a)
entered f Other i table = table

-- the tables after this arc, and after a line of this shape
abbrev pub roads_with : Arc → ℕ → Roads → Roads
roads_with a i roads = record {
  tails = set roads.tails i (tail_of a);
  heads = set roads.heads i (head_of a);
  travels = set roads.travels i (travel_of a);
}

abbrev pub roads_after : Shape → ℕ → Roads → Roads
roads_after x i roads = record {
  tails = entered tail_of x i roads.tails;
  heads = entered head_of x i roads.heads;
  travels = entered travel_of x i roads.travels;
}

-- tables with an entry for each arc that a network may have
pub record TablesLong (roads : Roads) : Type 0 where
  pub tails_long : length roads.tails ≡ most_arcs
  pub heads_long : length roads.heads ≡ most_arcs
  pub travels_long : length roads.travels ≡ most_arcs

-- the first n of these arcs stand in a table, and in all three
pub record Column (f : Arc → ℕ) (arcs : List Arc) (n : ℕ) (table : List ℕ) : Type 0 where
  pub long : length table ≡ most_arcs
  pub entry : (i : ℕ) → i < n → i < most_arcs → get_or table i 0 ≡ f (arc_at arcs i)

pub record Noted (arcs : List Arc) (n : ℕ) (roads : Roads) : Type 0 where
  pub tails_are : Column tail_of arcs n roads.tails
  pub heads_are : Column head_of arcs n roads.heads
  pub travels_are : Column travel_of arcs n roads.travels

-- where reading stands in the arcs of a text: behind those that have been seen, and at none before the sizes
pub record Counted (arcs later : List Arc) (r : Reading) : Type 0 where
  pub rest : later ≡ drop r.seen arcs
  pub unsized : r.sizes ≡ None → r.seen ≡ 0

-- the arcs of the lines before byte `at` are noted
pub record NotedTo (text : List ℕ) (at : ℕ) (r : Reading) (roads : Roads) : Type 0 where
  pub counted : Counted (arcs_of (lines_of text)) (arcs_of (lines_of (drop at text))) r
  pub noted : Noted (arcs_of (lines_of text)) r.seen roads

-- once all lines are read, the tables hold the arcs, unless a line was refused
abbrev pub ReadInto : List ℕ → Reading → Roads → Type 0
ReadInto text r roads =
    r.stopped ≡ false → Noted (arcs_of (lines_of text)) r.seen roads

-- THE JUDGEMENT of a text, with the arcs of one that is accepted in the tables
pub record JudgedInto (text : List ℕ) (j : Result Sizes Refusal) (roads : Roads) : Type 0 where
  pub told : j ≡ judging text
  pub noted : (k : Sizes) → j ≡ Ok k → Noted (arcs_of (lines_of text)) k.arcs roads

-- ONE LINE MORE
true_false : {P : Type 0} → ◌≡◌ {A = Bool} true false → P
true_false e = let z : ◌≡◌ {A = ℕ} 0 1 = cc in absurd (omega arith)

some_none : {P : Type 0} {k : Sizes} → Some k ≡ None → P
some_none e = let z : ◌≡◌ {A = ℕ} 0 1 = cc in absurd (omega arith)

none_of : (o : Option Sizes) → is_some o ≡ false → o ≡ None
none_of None e = refl
none_of (Some k) e = true_false e

-- a step that does not stop has passed the test that would
going_on : (t : Bool) (x y : Reading) → x.stopped ≡ true → (cond t x y).stopped ≡ false
    → (t ≡ false) × (cond t x y ≡ y)
going_on true x y e n = true_false (sym e ∙ n)
going_on false x y e n = (refl, refl)

-- the next arc is the one of an arc's line
arc_here : (arcs later : List Arc) (a : Arc) (n : ℕ) → a ∷ later ≡ drop n arcs
    → (a ≡ arc_at arcs n) × (later ≡ drop (n + 1) arcs)
arc_here arcs later a n e =
    let z : n + 1 ≡ suc n = omega arith in
    let l : n < length arcs = omega (arith, length-drop n arcs, ap (λ (l : List Arc). length l) e) in
    rw z (same a (arc_at arcs n) later (drop (suc n) arcs) (e ∙ drop-cons arcs n nowhere l))
  where
    same : (x y : Arc) (u v : List Arc) → x ∷ u ≡ y ∷ v → (x ≡ y) × (u ≡ v)
    same x y u v e = (cc, cc)

module _ (arcs later : List Arc) (r : Reading) where
  counted_arc : (a : Arc) (o : Option Sizes) → r.sizes ≡ o → a ∷ later ≡ drop r.seen arcs
      → (arc_within r a o).stopped ≡ false → Counted arcs later (arc_within r a o)
  unfolding arc_within
  counted_arc a None e h n = true_false n
  counted_arc a (Some k) e h n =
      let (_, g) = going_on (leb k.arcs r.seen) (passed_by r true) _ refl n in
      subst⁻¹ (Counted arcs later) g
      (record { rest = (arc_here arcs later a r.seen h).1; unsized = λ f. some_none (sym e ∙ f) })

  counted_next : (x : Shape) → Counted arcs (arc_first x later) r → (stepped r x).stopped ≡ false
      → Counted arcs later (stepped r x)
  unfolding stepped sized_by arc_by
  counted_next Remark h n = record { rest = h.rest; unsized = h.unsized }
  counted_next (SizesLine k) h n =
      let (f, g) = going_on (is_some r.sizes) (passed_by r true) _ refl n in
      subst⁻¹ (Counted arcs later) g
      (record {
        rest = h.rest ∙ ap (λ (m : ℕ). drop m arcs) (h.unsized (none_of r.sizes f));
        unsized = λ e. some_none e;
      })
  counted_next (ArcLine a) h n = counted_arc a r.sizes refl h.rest n
  counted_next Other h n = true_false n

  column_arc : (f : Arc → ℕ) (table : List ℕ) (a : Arc) (o : Option Sizes) → a ∷ later ≡ drop r.seen arcs
      → (arc_within r a o).stopped ≡ false → Column f arcs r.seen table
      → Column f arcs (arc_within r a o).seen (set table r.seen (f a))
  unfolding arc_within
  column_arc f table a None h n c = true_false n
  column_arc f table a (Some k) h n c =
      let (_, g) = going_on (leb k.arcs r.seen) (passed_by r true) _ refl n in
      let q : (arc_within r a (Some k)).seen ≡ r.seen + 1 = ap (λ (s : Reading). s.seen) g in
      record {
        long = length-set table r.seen (f a) ∙ c.long;
        entry = λ i l m. elim (ℕ_discrete i r.seen) [
          | yes e ↦
              rw e
              (get_or-set_same table r.seen (f a) 0 (omega (arith, c.long))
              ∙ ap f (arc_here arcs later a r.seen h).0)
          | no e ↦
              let k : i < r.seen = omega (arith, q) in
              get_or-set_other table r.seen i (f a) 0 e ∙ c.entry i k m
        ];
      }

  column_next : (f : Arc → ℕ) (table : List ℕ) (x : Shape) → Counted arcs (arc_first x later) r
      → (stepped r x).stopped ≡ false → Column f arcs r.seen table
      → Column f arcs (stepped r x).seen (entered f x r.seen table)
  unfolding stepped sized_by arc_by
  column_next f table Remark h n c = c
  column_next f table (SizesLine k) h n c =
      let (_, g) = going_on (is_some r.sizes) (passed_by r true) _ refl n in
      record { long = c.long; entry = λ i l m. absurd (omega (arith, ap (λ (s : Reading). s.seen) g)) }
  column_next f table (ArcLine a) h n c = column_arc f table a r.sizes h.rest n c
  column_next f table Other h n c = true_false n

-- FOR THE LOOP over the lines
pub noted_start : (text : List ℕ) (r : Reading) (roads : Roads) → r ≡ begun
    → TablesLong roads → NotedTo text 0 r roads
noted_start text r roads e l =
    rw e
    (record {
      counted = record { rest = refl; unsized = λ _. refl };
      noted = record {
        tails_are = none tail_of l.tails_long;
        heads_are = none head_of l.heads_long;
        travels_are = none travel_of l.travels_long;
      };
    })
  where
    none : {table : List ℕ} (f : Arc → ℕ) → length table ≡ most_arcs
        → Column f (arcs_of (lines_of text)) 0 table
    none f l = record { long = l; entry = λ i m n. absurd (omega arith) }

module _ (text : List ℕ) (at : ℕ) (r s : Reading) (line : Line) (roads : Roads)
    (h : NotedTo text at r roads) (some : at < length text) (next : NextLine text at line)
    (step : s ≡ stepped r line.shape) where
  here : Counted (arcs_of (lines_of text))
      (arc_first line.shape (arcs_of (lines_of (drop (line.end + 1) text)))) r
  unfolding arcs_of
  here = rw next.is
      (rw (next_line_lem text at line.end next.to some) at h.counted)

  pub noted_on : (next_roads : Roads) → next_roads ≡ roads_after line.shape r.seen roads → s.stopped ≡ false
      → NotedTo text (line.end + 1) s next_roads
  noted_on next_roads t n =
      let m : (stepped r line.shape).stopped ≡ false = rw step at n in
      let arcs = arcs_of (lines_of text) in
      let later = arcs_of (lines_of (drop (line.end + 1) text)) in
      rw (step, t)
      (record {
        counted = counted_next arcs later r line.shape here m;
        noted = record {
          tails_are = column_next arcs later r tail_of roads.tails line.shape here m h.noted.tails_are;
          heads_are = column_next arcs later r head_of roads.heads line.shape here m h.noted.heads_are;
          travels_are =
              column_next arcs later r travel_of roads.travels line.shape here m h.noted.travels_are;
        };
      })

pub noted_over : (text : List ℕ) (at : ℕ) (r : Reading) (roads : Roads)
    → NotedTo text at r roads → ReadInto text r roads
noted_over text at r roads h _ = h.noted

pub noted_off : (text : List ℕ) (r : Reading) (roads : Roads) → r.stopped ≡ true
    → ReadInto text r roads
noted_off text r roads s e = true_false (sym s ∙ e)

-- THE END
fewer : (f : Arc → ℕ) (arcs : List Arc) (m n : ℕ) (table : List ℕ) → m ≤ n → Column f arcs n table
    → Column f arcs m table
fewer f arcs m n table l c =
    record { long = c.long; entry = λ i p q. c.entry i (omega arith) q }

-- an accepted text was not stopped, and has no fewer arcs than its sizes say
accepted_read : (r : Reading) (k : Sizes) → judged r ≡ Ok k → (r.stopped ≡ false) × (k.arcs ≤ r.seen)
unfolding judged unfinished
accepted_read r k e =
    let (f, g) = refused_only (unfinished r) _ _ k e in
    let (s, h) = or_passed r.stopped _ f in
    let (_, z) = right_only r.wrong r.sizes _ k g in
    (s, ltb-false r.seen k.arcs (rw z at h))

pub judged_into : (text : List ℕ) (r : Reading) (j : Result Sizes Refusal) (roads : Roads)
    → r ≡ read_all begun (lines_of text) → ReadInto text r roads → j ≡ judged r
    → JudgedInto text j roads
judged_into text r j roads e h g = record {
  told = g ∙ rw e;
  noted = λ k a.
      let (s, l) = accepted_read r k (sym g ∙ a) in
      let n = h s in
      record {
        tails_are = fewer tail_of _ k.arcs r.seen roads.tails l n.tails_are;
        heads_are = fewer head_of _ k.arcs r.seen roads.heads l n.heads_are;
        travels_are = fewer travel_of _ k.arcs r.seen roads.travels l n.travels_are;
      };
}
