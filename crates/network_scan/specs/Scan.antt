-- One pass over the points that judges rules 9 and 10 together: the invariant of the loop over an arc's
-- points and of the loop over the arcs, with the laws of each step in the shape of the code's needs. Rule 10
-- is judged of a point once the next one is read.
use mathlib.Core.{Path.◌≡◌, Path.refl, Path.sym, Path.◌∙◌, List.List}
use Rattle.std.specs.Prelude.{Bool, true, false, cond, not, ◌||◌, ℕ, zero, suc, ◌+◌, ◌-◌, ◌≤◌, ◌<◌}
use Rattle.std.specs.Prelude.{Result, Ok, Err, MatchResult}
use native.Mathlib.Omega.{arith}
use lib.{ListN.get_or, Dec.leb, Dec.ltb, Dec.eqb}
use Rattle.std.proofs.Common.{ne_eqb}
use Rattle.theory_loops.specs.First.{first, none_yet, pass, stop, done, first_more}
use Rattle.theory_travel.specs.{Day.closed_in, Day.closed_end, Ticks.bad_tick}
use Rattle.theory_travel.specs.Table.{entry_at, entry_first}
use Rattle.network.specs.Rules.{bad_point, overtaken}

-- rule 9 as code asks it of point i, whose tick is t and travel v, after a point with tick p
unfoldable pub misplaced : ℕ → ℕ → ℕ → Bool
misplaced i p t = cond (eqb i 0) (not (eqb t 0)) (leb t p)

unfoldable pub bad_point_by : ℕ → ℕ → ℕ → ℕ → ℕ → Bool
bad_point_by period i p t v = misplaced i p t || (leb period t || (ltb v 1 || ltb period v))

-- the first late point of i, by the first of i - 1, where the last of them ends at `end` and the one after it
-- at `next`
unfoldable pub late_at : ℕ → ℕ → ℕ → ℕ → ℕ
late_at late i end next = cond (eqb i 0) 0 (cond (ltb late (i - 1)) late (cond (ltb next end) (i - 1) i))

-- what a scan of an arc's points tells: the first that breaks rule 9, and where there is none the first that
-- breaks rule 10, or their count
abbrev pub Scanned : (period : ℕ) (t v : ℕ → ℕ) (m : ℕ) → Result ℕ ℕ → Type 0
Scanned period t v m r =
    MatchResult r
    (λ late. (m ≡ first m (bad_point period t v)) × (late ≡ first m (overtaken period t v m)))
    (λ bad. (bad < m) × (bad ≡ first m (bad_point period t v)))

-- the loop over the points of an arc, before point i: the point before it has this tick and end
pub record Scanning (period : ℕ) (t v : ℕ → ℕ) (m i p end late : ℕ) : Type 0 where
  pub within : i ≤ m
  pub fine : first i (bad_point period t v) ≡ i
  pub tick_is : 0 < i → p ≡ t (i - 1)
  pub end_is : 0 < i → end ≡ t (i - 1) + v (i - 1)
  pub late_is : late ≡ first (i - 1) (overtaken period t v m)

first_none : (p : ℕ → Bool) → 0 ≡ first 0 p
unfolding first
first_none p = refl

late_more : (p : ℕ → Bool) (i late end next : ℕ) → late ≡ first (i - 1) p → (0 < i → ltb next end ≡ p (i - 1))
    → late_at late i end next ≡ first i p
unfolding late_at
late_more p zero late end next e h = first_none p
late_more p (suc k) late end next e h =
    let q : suc k - 1 ≡ k = omega arith in
    let f : late ≡ first k p = rw q at e in
    let g : ltb next end ≡ p k = rw q at (h (omega arith)) in
    let z : eqb (suc k) 0 ≡ false = ne_eqb (suc k) 0 (omega arith) in
    rw (first_more k p, z, q, f, g)

or_assoc : (a b c : Bool) → ((a || b) || c) ≡ (a || (b || c))
or_assoc true b c = refl
or_assoc false b c = refl

-- whether point i is bad, by what was read, and by the tick before it where there is a point before it
bad_is : (period i p : ℕ) (t v : ℕ → ℕ) → (0 < i → p ≡ t (i - 1))
    → bad_point_by period i p (t i) (v i) ≡ bad_point period t v i
unfolding bad_point bad_tick bad_point_by misplaced
bad_is period zero p t v h = sym (or_assoc (not (eqb (t 0) 0)) (leb period (t 0)) _)
bad_is period (suc k) p t v h =
    let q : suc k - 1 ≡ k = omega arith in
    rw (h (omega arith), q, ne_eqb (suc k) 0 (omega arith)) (sym (or_assoc (leb (t (suc k)) (t k)) _ _))

-- whether the point before i is overtaken, by point i
late_is : (period m i : ℕ) (t v : ℕ → ℕ) → 0 < i → i < m
    → ltb (t i + v i) (t (i - 1) + v (i - 1)) ≡ overtaken period t v m (i - 1)
unfolding overtaken
late_is period m i t v h l =
    let q : suc (i - 1) ≡ i = omega arith in
    rw (q, closed_in m t period i l, closed_in m v (v 0) i l)

-- and whether the last is, by the next day's first
last_is : (period m : ℕ) (t v : ℕ → ℕ) → 0 < m
    → ltb (period + v 0) (t (m - 1) + v (m - 1)) ≡ overtaken period t v m (m - 1)
unfolding overtaken
last_is period m t v h =
    let q : suc (m - 1) ≡ m = omega arith in
    rw (q, closed_end m t period m (omega arith), closed_end m v (v 0) m (omega arith))

-- THE LOOP OVER AN ARC'S POINTS, which stand from point `from` on
module _ (ticks travels : List ℕ) (period from m : ℕ) where
  abbrev t : ℕ → ℕ
  t = entry_at ticks from

  abbrev v : ℕ → ℕ
  v = entry_at travels from

  pub scan_start : Scanning period (entry_at ticks from) (entry_at travels from) m 0 0 0 0
  scan_start = record {
    within = omega arith;
    fine = none_yet _;
    tick_is = λ h. absurd (omega arith);
    end_is = λ h. absurd (omega arith);
    late_is = first_none _;
  }

  module _ (i p end late x y : ℕ) (b : Bool) (s : Scanning period t v m i p end late) (l : i < m)
      (e : x ≡ get_or ticks (from + i) 0) (f : y ≡ get_or travels (from + i) 0)
      (g : b ≡ bad_point_by period i p x y) where
    told_bad : b ≡ bad_point period t v i
    unfolding entry_at
    told_bad = g ∙ (rw (e, f) (bad_is period i p t v s.tick_is))

    pub scan_stop : b ≡ true → Scanned period (entry_at ticks from) (entry_at travels from) m (Err i)
    scan_stop h = (l, stop _ m i s.fine l (sym told_bad ∙ h))

    pub scan_more : (next : ℕ) → b ≡ false → next ≡ late_at late i end (x + y)
        → Scanning period (entry_at ticks from) (entry_at travels from) m (i + 1) x (x + y) next
    unfolding entry_at
    scan_more next h k =
        let q : i + 1 - 1 ≡ i = omega arith in
        record {
          within = omega arith;
          fine = pass _ i s.fine (sym told_bad ∙ h);
          tick_is = λ _. rw q e;
          end_is = λ _. rw q (rw (e, f));
          late_is = rw q (k ∙ late_more _ i late end (x + y) s.late_is
              (λ o. rw (e, f, s.end_is o) (late_is period m i t v o l)));
        }

  pub scan_end : (i p end late w next : ℕ)
      → Scanning period (entry_at ticks from) (entry_at travels from) m i p end late → m ≤ i → 0 < m
      → w ≡ get_or travels from 0 → next ≡ late_at late m end (period + w)
      → Scanned period (entry_at ticks from) (entry_at travels from) m (Ok next)
  scan_end i p end late w next s l h e k =
      let q : i ≡ m = omega (arith, s.within) in
      let z : w ≡ v 0 = e ∙ entry_first travels from in (
        rw q at (done _ i i s.fine (omega arith) (omega arith)),
        k ∙ late_more _ m late end (period + w) (rw q at s.late_is)
            (λ o. rw (z, rw q at s.end_is o) (last_is period m t v o)),
      )

-- for `search scans` at the needs of that loop
pub ruleset scans = (scan_start, scan_stop, scan_more, scan_end)
