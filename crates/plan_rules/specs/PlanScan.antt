-- A scan of the points of one profile that judges rule 19, read in their order by a walk: what it tells,
-- the invariant of its loop, and the laws of each step in the shape of the code's needs. A tick is judged by
-- the range in which it has to lie: 0 alone at the first point, then from the tick before it up to the
-- period.
use Rattle.std.specs.Prelude.{◌≡◌, refl, Bool, true, false, not, ◌||◌, ltb, leb, eqb}
use Rattle.std.specs.Prelude.{ℕ, zero, suc, ◌+◌, ◌-◌, ◌≤◌, ◌<◌}
use Rattle.std.specs.Prelude.{Result, Ok, Err, MatchResult}
use Rattle.std.proofs.Common.{sym, ◌∙◌, ap, le-ltb, le-leb, ne_eqb}
use Prim.Native.Nat.compare
use native.Mathlib.Omega.{arith}
use Rattle.std.proofs.lemmas.Bool.{lt-leb}
use Rattle.theory_loops.specs.First.{first, any, none_yet, pass, stop, yes_any, no_any}
use Rattle.theory_travel.specs.{Ticks.bad_tick, Table.entry_at}
use Rattle.file_blocks.specs.Walk.{walk_first}
use Rattle.file_blocks.specs.declared.walk.Walk.{Walk}
use Rattle.plan.specs.declared.header.PlanLayout.{PlanLayout}
use Rattle.plan.specs.{Plan.Plan, PlanDecode.point_tick, PlanWalk.point_at}

-- WHAT A SCAN TELLS of m points from number `from` on, the ticks of one profile: where none is bad, that the
-- walk stands after them, and else the first bad one by its number
abbrev pub Scanned : (p : Plan) (l : PlanLayout) (from m : ℕ) → Result Walk ℕ → Type 0
Scanned p l from m r =
    MatchResult r
    (λ at. (any m (bad_tick l.period (entry_at p.ticks from)) ≡ false)
    × (at ≡ point_at l.pointblock (from + m)))
    (λ bad. (any m (bad_tick l.period (entry_at p.ticks from)) ≡ true)
    × (bad ≡ from + first m (bad_tick l.period (entry_at p.ticks from))))

-- the loop before point i of them: the tick there has to lie from low up to high
pub record Scanning (p : Plan) (l : PlanLayout) (from m i low high : ℕ) (c : Walk) : Type 0 where
  pub within : i ≤ m
  pub fine : first i (bad_tick l.period (entry_at p.ticks from)) ≡ i
  pub first_range : i ≡ 0 → (low ≡ 0) × (high ≡ 1)
  pub later_range : 0 < i → (low ≡ entry_at p.ticks from (i - 1) + 1) × (high ≡ l.period)
  pub at : c ≡ point_at l.pointblock (from + i)

-- whether the tick x of point i is bad, by its range
in_range : (period : ℕ) (t : ℕ → ℕ) (i low high x : ℕ) → 1 ≤ period → (i ≡ 0 → (low ≡ 0) × (high ≡ 1))
    → (0 < i → (low ≡ t (i - 1) + 1) × (high ≡ period)) → x ≡ t i
    → (ltb x low || leb high x) ≡ bad_tick period t i
unfolding bad_tick
in_range period t zero low high x some f g e =
    let (a, b) = f refl in
    rw (a, b, ← e) (go x)
  where
    go : (x : ℕ) → (ltb x 0 || leb 1 x) ≡ (not (eqb x 0) || leb period x)
    go zero = sym (lt-leb period 0 some)
    go (suc y) =
        rw (le-ltb (suc y) 0 (omega arith), le-leb 1 (suc y) (omega arith), ne_eqb (suc y) 0 (omega arith))
in_range period t (suc i) low high x some f g e =
    let q : suc i - 1 ≡ i = omega arith in
    let (a, b) = g (omega arith) in
    let z : low ≡ suc (t i) = omega (arith, a, ap t q) in
    rw (z, b, ← e, compare.suc-suc)

module _ (p : Plan) (l : PlanLayout) (from m : ℕ) where
  abbrev t : ℕ → ℕ
  t = entry_at p.ticks from

  pub scan_start : (c : Walk) → c ≡ point_at l.pointblock from
      → Scanning p l from m 0 0 1 c
  scan_start c e = record {
    within = omega arith;
    fine = none_yet _;
    first_range = λ _. (refl, refl);
    later_range = λ h. absurd (omega arith);
    at = walk_first _ _ _ from e;
  }

  module _ (i low high x : ℕ) (c : Walk) (b : Bool) (some : 1 ≤ l.period)
      (s : Scanning p l from m i low high c) (h : i < m)
      (e : x ≡ point_tick p (from + i)) (f : b ≡ ltb x low || leb high x) where
    told_bad : b ≡ bad_tick l.period t i
    unfolding entry_at
    told_bad = f ∙ in_range l.period t i low high x some s.first_range s.later_range e

    pub scan_stop : b ≡ true → Scanned p l from m (Err (from + i))
    scan_stop k =
        let q : bad_tick l.period t i ≡ true = sym told_bad ∙ k in
        (yes_any _ m i h q, ap (λ (z : ℕ). from + z) (stop _ m i s.fine h q))

    pub scan_more : (d : Walk) → b ≡ false → d ≡ point_at l.pointblock (from + (i + 1))
        → Scanning p l from m (i + 1) (x + 1) l.period d
    unfolding entry_at
    scan_more d k g =
        let q : i + 1 - 1 ≡ i = omega arith in
        record {
          within = omega arith;
          fine = pass _ i s.fine (sym told_bad ∙ k);
          first_range = λ o. absurd (omega arith);
          later_range = λ _. (rw (q, e), refl);
          at = g;
        }

  pub scan_end : (i low high : ℕ) (c : Walk) → Scanning p l from m i low high c → m ≤ i
      → Scanned p l from m (Ok c)
  scan_end i low high c s h =
      let q : i ≡ m = omega (arith, s.within) in
      (no_any _ m i s.fine s.within h, rw q at s.at)

-- for `search scans` at the needs of that loop
pub ruleset scans = (scan_start, scan_stop, scan_more, scan_end)
