-- A text is accepted, with its sizes, exactly where it is one of those that the wish describes
-- (`accepted_exactly`).
use mathlib.Core.{Path.◌≡◌, Path.refl, Path.◌∙◌, Path.ap, Path.subst, Logic.◌≢◌, Logic.◌↔◌}
use mathlib.Core.{Bool.Bool, Bool.true, Bool.false, Bool.cond, List.List, List.[], List.◌∷◌}
use Rattle.std.specs.Prelude.{Option, Some, None, is_some, Result, Ok, Err, ℕ, ◌+◌, ◌≤◌, ◌<◌}
use Rattle.std.specs.Option.{option_map_or}
use native.Mathlib.{Decide.dec_lt, Omega.arith}
use lib.{ListN.length, Dec.eqb, Dec.leb, Dec.ltb}
use Rattle.std.proofs.lemmas.Bool.{eqb-false, lt-leb}
use Rattle.std.proofs.Common.{ne_eqb, ltb-false, le-ltb, le-leb}
use Rattle.theory_loops.specs.Pick.{or_passed, passed_by_lem, cond_holds}
use Rattle.file_refusals.specs.declared.Refusal.{Refusal}
use Rattle.network.specs.Limits.{most_nodes, most_arcs, most_period}
use Rattle.text_lines.specs.Lines.{lines_of}
use Rattle.dimacs_line.specs.declared.line.{Sizes.Sizes, Arc.Arc, Shape.Shape}
use Rattle.dimacs_line.specs.declared.line.Shape.TheVariants.{Remark, Other}
use Rattle.dimacs_line.specs.declared.line.Shape.TheVariants.{Sizes as SizesLine, Arc as ArcLine}
use Rattle.dimacs_line.specs.Shape.{shape_of, IsSizes, IsArc}
use Rattle.dimacs_line.specs.ShapeExact.{remark_exactly, sizes_exactly, arc_exactly}
use Rattle.dimacs_reading.specs.declared.reading.Reading.{Reading}
use Rattle.dimacs_reading.specs.Accepted.{SizesWithin, Fitting, ArcLines, none, remark, arc, RoadText}
use Rattle.dimacs_reading.specs.{Accepted.remark_first, Accepted.sizes, Reading.read_none}
use Rattle.dimacs_reading.specs.Reading.{outside, misfit, noted, passed_by, sized_by, arc_within, arc_by}
use Rattle.dimacs_reading.specs.Reading.{stepped, read_all, unfinished, valued, judged, judging}
use Rattle.dimacs_reading.specs.Reading.{read_stopped, read_line}

-- THE RULES of 36 as facts
within_limits_lem : (k : Sizes) → outside k ≡ false → SizesWithin k
unfolding outside
within_limits_lem k e =
    let (z, f) = or_passed (eqb k.nodes 0) _ e in
    let (n, a) = or_passed (ltb most_nodes k.nodes) _ f in
    record {
      some = omega (arith, eqb-false k.nodes 0 z);
      nodes_few = ltb-false most_nodes k.nodes n;
      arcs_few = ltb-false most_arcs k.arcs a;
    }

limits_within : (k : Sizes) → SizesWithin k → outside k ≡ false
unfolding outside
limits_within k w = rw (
  ne_eqb k.nodes 0 (omega (arith, w.some)),
  le-ltb most_nodes k.nodes w.nodes_few,
  le-ltb most_arcs k.arcs w.arcs_few,
)

fitting : (nodes : ℕ) (a : Arc) → misfit nodes a ≡ false → Fitting nodes a
unfolding misfit
fitting nodes a e =
    let (p, e₁) = or_passed (eqb a.tail a.head) _ e in
    let (q, e₂) = or_passed (eqb a.tail 0) _ e₁ in
    let (r, e₃) = or_passed (ltb nodes a.tail) _ e₂ in
    let (s, e₄) = or_passed (eqb a.head 0) _ e₃ in
    let (t, e₅) = or_passed (ltb nodes a.head) _ e₄ in
    let (u, v) = or_passed (eqb a.weight 0) _ e₅ in
    record {
      apart = eqb-false a.tail a.head p;
      tail_first = omega (arith, eqb-false a.tail 0 q);
      tail_last = ltb-false nodes a.tail r;
      head_first = omega (arith, eqb-false a.head 0 s);
      head_last = ltb-false nodes a.head t;
      weight_least = omega (arith, eqb-false a.weight 0 u);
      weight_most = ltb-false most_period a.weight v;
    }

fits : (nodes : ℕ) (a : Arc) → Fitting nodes a → misfit nodes a ≡ false
unfolding misfit
fits nodes a f = rw (
  ne_eqb a.tail a.head f.apart,
  ne_eqb a.tail 0 (omega (arith, f.tail_first)),
  le-ltb nodes a.tail f.tail_last,
  ne_eqb a.head 0 (omega (arith, f.head_first)),
  le-ltb nodes a.head f.head_last,
  ne_eqb a.weight 0 (omega (arith, f.weight_least)),
  le-ltb most_period a.weight f.weight_most,
)

-- WHERE READING STANDS: after n lines without a fault, before the `p` line or after it and s arcs
abbrev before : ℕ → Reading
before n = record { lines = n; stopped = false; sizes = None; seen = 0; wrong = None }

abbrev after : ℕ → Sizes → ℕ → Reading
after n k s = record { lines = n; stopped = false; sizes = Some k; seen = s; wrong = None }

zero_one : ◌≡◌ {A = ℕ} 0 1 → ⊥
zero_one z = omega arith

some_none : {n : ℕ} → Some n ≡ None → ⊥
some_none e = zero_one (cc)

-- WHAT IS LOST: a reading that is stopped, or that has noted a wrong line, is not accepted
pub refused_only : (t : Bool) (a : Result Sizes Refusal) (q : Refusal) (k : Sizes) → cond t (Err q) a ≡ Ok k
    → (t ≡ false) × (a ≡ Ok k)
refused_only t a q k e = passed_by_lem t (Err q) a (Ok k) (λ f. zero_one (cc)) e

pub right_only : (wrong : Option ℕ) (o : Option Sizes) (q : Refusal) (k : Sizes)
    → option_map_or (valued wrong) o (Err q) ≡ Ok k → (wrong ≡ None) × (o ≡ Some k)
right_only None (Some j) q k e = (refl, cc)
right_only None None q k e = absurd (zero_one (cc))
right_only (Some line) None q k e = absurd (zero_one (cc))
right_only (Some line) (Some j) q k e = absurd (zero_one (cc))

stopped_lost : (r : Reading) (lines : List (List ℕ)) (k : Sizes) → r.stopped ≡ true
    → judged (read_all r lines) ≡ Ok k → ⊥
unfolding judged unfinished
stopped_lost r lines k s e =
    let f = rw (read_stopped r lines s, s) at e in
    zero_one (cc)

noted_kept : (wrong : Option ℕ) (line : ℕ) (fault : Bool) → wrong ≢ None → noted wrong line fault ≢ None
unfolding noted
noted_kept None line fault n = absurd (n refl)
noted_kept (Some first) line fault n = n

wrong_kept : (r : Reading) (shape : Shape) → r.wrong ≢ None → (stepped r shape).wrong ≢ None
unfolding stepped sized_by arc_by arc_within
wrong_kept r Remark n = n
wrong_kept r (SizesLine k) n =
    cond_holds (λ (x : Reading). x.wrong ≢ None) (is_some r.sizes) _ _ n (noted_kept r.wrong _ _ n)
wrong_kept r (ArcLine a) n = by r.sizes
  where
    by : (o : Option Sizes) → (arc_within r a o).wrong ≢ None
    by None = n
    by (Some k) =
        cond_holds (λ (x : Reading). x.wrong ≢ None) (leb k.arcs r.seen) _ _ n (noted_kept r.wrong _ _ n)
wrong_kept r Other n = n

ended_wrong : (r : Reading) (k : Sizes) → r.wrong ≢ None → judged r ≡ Ok k → ⊥
unfolding judged
ended_wrong r k n e =
    let (_, f) = refused_only (unfinished r) _ _ k e in
    n (right_only r.wrong r.sizes _ k f).0

wrong_lost : (lines : List (List ℕ)) (r : Reading) (k : Sizes) → r.wrong ≢ None
    → judged (read_all r lines) ≡ Ok k → ⊥
wrong_lost [] r k n e = ended_wrong r k n (rw (read_none r) at e)
wrong_lost (line ∷ lines) r k n e =
    by r.stopped refl (wrong_lost lines (stepped r (shape_of line)) k (wrong_kept r (shape_of line) n))
  where
    by : (t : Bool) → r.stopped ≡ t
        → (judged (read_all (stepped r (shape_of line)) lines) ≡ Ok k → ⊥) → ⊥
    by true s h = stopped_lost r (line ∷ lines) k s e
    by false s h = h (rw (read_line r line lines s) at e)

-- ACCEPTED, SO DESCRIBED: after the `p` line, these are remarks and the arcs that are still to come
abbrev Found : Sizes → Sizes → ℕ → List (List ℕ) → Type 0
Found k j s lines =
    (k ≡ j) × ((arcs : List Arc) × ArcLines k.nodes lines arcs × (s + length arcs ≡ k.arcs))

same_sizes : (k j : Sizes) → ◌≡◌ {A = Result Sizes Refusal} (Ok k) (Ok j) → k ≡ j
same_sizes k j e = cc

arc_kept : (n : ℕ) (k : Sizes) (s : ℕ) (a : Arc) → s < k.arcs → misfit k.nodes a ≡ false
    → arc_by (after n k s) a ≡ after (n + 1) k (s + 1)
unfolding arc_by arc_within noted
arc_kept n k s a l f = rw (lt-leb k.arcs s l, f)

arc_wrong : (n : ℕ) (k : Sizes) (s : ℕ) (a : Arc) → s < k.arcs → misfit k.nodes a ≡ true
    → (arc_by (after n k s) a).wrong ≢ None
unfolding arc_by arc_within noted
arc_wrong n k s a l f e = some_none (rw (lt-leb k.arcs s l, f) at e)

arc_many : (n : ℕ) (k : Sizes) (s : ℕ) (a : Arc) → k.arcs ≤ s → (arc_by (after n k s) a).stopped ≡ true
unfolding arc_by arc_within
arc_many n k s a l = rw (le-leb k.arcs s l)

module _ (n : ℕ) (k j : Sizes) (s : ℕ) (line : List ℕ) (lines : List (List ℕ))
    (ih : (n s : ℕ) → s ≤ k.arcs → judged (read_all (after n k s) lines) ≡ Ok j → Found k j s lines)
    (l : s ≤ k.arcs) where
  found_arc : (a : Arc) → IsArc line a → judged (read_all (arc_by (after n k s) a) lines) ≡ Ok j
      → Found k j s (line ∷ lines)
  found_arc a h e = elim (dec_lt s k.arcs) [
    | yes m ↦ by (misfit k.nodes a) refl m
    | no m ↦ absurd (stopped_lost (arc_by (after n k s) a) lines j (arc_many n k s a (omega arith)) e)
  ]
    where
      by : (t : Bool) → misfit k.nodes a ≡ t → s < k.arcs → Found k j s (line ∷ lines)
      by true f m = absurd (wrong_lost lines (arc_by (after n k s) a) j (arc_wrong n k s a m f) e)
      by false f m =
          let (q, (arcs, al, c)) = ih (n + 1) (s + 1) (omega arith) (rw (arc_kept n k s a m f) at e) in
          (q, (a ∷ arcs, arc line a lines arcs h (fitting k.nodes a f) al, omega arith))

  found_line : (shape : Shape) → shape_of line ≡ shape
      → judged (read_all (stepped (after n k s) shape) lines) ≡ Ok j → Found k j s (line ∷ lines)
  unfolding stepped sized_by
  found_line Remark f e =
      let (q, (arcs, al, c)) = ih (n + 1) s l e in
      (q, (arcs, remark line lines arcs ((remark_exactly line).0 f) al, c))
  found_line (SizesLine i) f e = absurd (stopped_lost (passed_by (after n k s) true) lines j refl e)
  found_line (ArcLine a) f e = found_arc a ((arc_exactly line a).0 f) e
  found_line Other f e = absurd (stopped_lost (passed_by (after n k s) true) lines j refl e)

found : (lines : List (List ℕ)) (n : ℕ) (k j : Sizes) (s : ℕ) → s ≤ k.arcs
    → judged (read_all (after n k s) lines) ≡ Ok j → Found k j s lines
unfolding judged unfinished
found [] n k j s l e =
    let (f, g) = refused_only (ltb s k.arcs) _ _ j (rw (read_none (after n k s)) at e) in
    (same_sizes k j g, ([], none, omega (arith, ltb-false s k.arcs f)))
found (line ∷ lines) n k j s l e =
    found_line n k j s line lines (λ m t. found lines m k j t) l (shape_of line) refl
    (rw (read_line (after n k s) line lines refl) at e)

-- and a whole text is remarks up to the `p` line, then these
abbrev Described : Sizes → List (List ℕ) → Type 0
Described j lines = (arcs : List Arc) × RoadText j lines arcs

sizes_kept : (n : ℕ) (k : Sizes) → outside k ≡ false → sized_by (before n) k ≡ after (n + 1) k 0
unfolding sized_by noted
sizes_kept n k f = rw f

sizes_wrong : (n : ℕ) (k : Sizes) → outside k ≡ true → (sized_by (before n) k).wrong ≢ None
unfolding sized_by noted
sizes_wrong n k f e = some_none (rw f at e)

module _ (n : ℕ) (j : Sizes) (line : List ℕ) (lines : List (List ℕ))
    (ih : (n : ℕ) → judged (read_all (before n) lines) ≡ Ok j → Described j lines) where
  described_sizes : (k : Sizes) → IsSizes line k → judged (read_all (sized_by (before n) k) lines) ≡ Ok j
      → Described j (line ∷ lines)
  described_sizes k h e = by (outside k) refl
    where
      by : (t : Bool) → outside k ≡ t → Described j (line ∷ lines)
      by true f = absurd (wrong_lost lines (sized_by (before n) k) j (sizes_wrong n k f) e)
      by false f =
          let (q, (arcs, al, c)) = found lines (n + 1) k j 0 (omega arith) (rw (sizes_kept n k f) at e) in
          let z : length arcs ≡ k.arcs = omega (arith, c) in
          subst (λ (i : Sizes). Described i (line ∷ lines)) q
          (arcs, sizes line lines arcs h (within_limits_lem k f) al z)

  described_line : (shape : Shape) → shape_of line ≡ shape
      → judged (read_all (stepped (before n) shape) lines) ≡ Ok j → Described j (line ∷ lines)
  unfolding stepped arc_by arc_within
  described_line Remark f e =
      let (arcs, t) = ih (n + 1) e in
      (arcs, remark_first line lines arcs ((remark_exactly line).0 f) t)
  described_line (SizesLine k) f e = described_sizes k ((sizes_exactly line k).0 f) e
  described_line (ArcLine a) f e = absurd (stopped_lost (passed_by (before n) true) lines j refl e)
  described_line Other f e = absurd (stopped_lost (passed_by (before n) true) lines j refl e)

described : (lines : List (List ℕ)) (n : ℕ) (j : Sizes) → judged (read_all (before n) lines) ≡ Ok j
    → Described j lines
unfolding judged unfinished
described [] n j e = let f = rw (read_none (before n)) at e in absurd (zero_one (cc))
described (line ∷ lines) n j e =
    described_line n j line lines (λ m. described lines m j) (shape_of line) refl
    (rw (read_line (before n) line lines refl) at e)

-- DESCRIBED, SO ACCEPTED
step_is : (r : Reading) (line : List ℕ) (lines : List (List ℕ)) (shape : Shape) (next : Reading)
    → r.stopped ≡ false → shape_of line ≡ shape → stepped r shape ≡ next
    → read_all r (line ∷ lines) ≡ read_all next lines
step_is r line lines shape next s e f = read_line r line lines s ∙ rw (e, f)

arcs_accepted : (k : Sizes) (n s : ℕ) (lines : List (List ℕ)) (arcs : List Arc)
    → ArcLines k.nodes lines arcs → s + length arcs ≡ k.arcs
    → judged (read_all (after n k s) lines) ≡ Ok k
unfolding judged unfinished stepped
arcs_accepted k n s _ _ none c =
    rw (read_none (after n k s), le-ltb s k.arcs (omega arith))
arcs_accepted k n s _ _ (remark line lines arcs h al) c =
    ap judged
    (step_is (after n k s) line lines Remark (after (n + 1) k s) refl ((remark_exactly line).1 h) refl)
    ∙ arcs_accepted k (n + 1) s lines arcs al c
arcs_accepted k n s _ _ (arc line a lines arcs h f al) c =
    ap judged
    (step_is (after n k s) line lines (ArcLine a) (after (n + 1) k (s + 1)) refl ((arc_exactly line a).1 h)
    (arc_kept n k s a (omega arith) (fits k.nodes a f)))
    ∙ arcs_accepted k (n + 1) (s + 1) lines arcs al (omega arith)

text_accepted : (k : Sizes) (n : ℕ) (lines : List (List ℕ)) (arcs : List Arc) → RoadText k lines arcs
    → judged (read_all (before n) lines) ≡ Ok k
unfolding stepped
text_accepted k n _ _ (remark_first line lines arcs h t) =
    ap judged (step_is (before n) line lines Remark (before (n + 1)) refl ((remark_exactly line).1 h) refl)
    ∙ text_accepted k (n + 1) lines arcs t
text_accepted k n _ _ (sizes line lines arcs h w al c) =
    ap judged
    (step_is (before n) line lines (SizesLine k) (after (n + 1) k 0) refl ((sizes_exactly line k).1 h)
    (sizes_kept n k (limits_within k w)))
    ∙ arcs_accepted k (n + 1) 0 lines arcs al (omega (arith, c))

-- A TEXT IS ACCEPTED, with these sizes, exactly where it is remarks, one `p` line with them and as many arcs
pub accepted_exactly : (text : List ℕ) (k : Sizes)
    → (judging text ≡ Ok k) ↔ ((arcs : List Arc) × RoadText k (lines_of text) arcs)
accepted_exactly text k =
    (λ e. described (lines_of text) 0 k e, λ h. text_accepted k 0 (lines_of text) h.0 h.1)
