-- The pass over the points of all arcs, arc by arc: what it tells, the invariant of its loop, and the laws of
-- each step.
use mathlib.Core.{Path.◌≡◌, Path.refl, Path.sym, Path.◌∙◌, Bool.Bool, Bool.true, Bool.false, Bool.cond}
use Prim.Native.Nat.{ℕ, suc, ◌+◌, ◌≤◌, ◌<◌}
use native.Mathlib.{Numerals.add-one, Omega.arith}
use Rattle.std.specs.Prelude.{ltb, Result, Ok, Err, MatchResult}
use Rattle.std.proofs.Common.{lt-ltb, le-ltb, ltb-true, ltb-false}
use Rattle.theory_loops.specs.First.{first, first_le, found, none_yet, pass, stop, first_more}
use Rattle.theory_loops.specs.Total.{total_none, total_more}
use Rattle.theory_travel.specs.Table.{entry_at}
use Rattle.network.specs.Network.{Network, arcs, points, count, start}
use Rattle.network.specs.FirstPoint.{Counted, any_of, points_in, none_first, at_first}
use Rattle.network.specs.Rules.{ticks_of, travels_of, bad_point_of, overtaken_of, first_point}
use Rattle.network_scan.specs.Scan.{Scanned}
use Rattle.network.specs.Limits.{most_points}

-- the first point that breaks rule 9, and where there is none the first that breaks rule 10, or the count of
-- points
abbrev pub ScannedAll : (n : Network) → Result ℕ ℕ → Type 0
ScannedAll n r =
    MatchResult r
    (λ late. (points n ≡ first_point n (bad_point_of n) (arcs n))
    × (late ≡ first_point n (overtaken_of n) (arcs n)))
    (λ bad. (bad < points n) × (bad ≡ first_point n (bad_point_of n) (arcs n)))

-- the loop before arc a, whose points start at `from`; P is the period, R and Q are the counts of arcs and of
-- points
pub record ScanningAll (n : Network) (P R Q a from late : ℕ) : Type 0 where
  pub counted : Counted n
  pub period_is : P ≡ n.period
  pub arcs_are : R ≡ arcs n
  pub points_are : Q ≡ points n
  pub few : Q ≤ most_points
  pub within : a ≤ R
  pub from_is : from ≡ start n a
  pub fine : first a (any_of n (bad_point_of n)) ≡ a
  pub late_is : late ≡ first_point n (overtaken_of n) a

-- the first late point of one arc more: m points from `from` on, of which `at` is the first late one
unfoldable pub late_in : ℕ → ℕ → ℕ → ℕ → ℕ → ℕ
late_in late Q from m at = cond (ltb late Q) late (cond (ltb at m) (from + at) Q)

module _ (n : Network) (test : ℕ → ℕ → Bool) where
  -- the first point of one arc more
  first_in : Counted n → (a late : ℕ) → a < arcs n → late ≡ first_point n test a
      → late_in late (points n) (start n a) (count n a) (first (count n a) (test a))
      ≡ first_point n test (suc a)
  unfolding late_in
  first_in c a late l e = go (ltb (first a p) a) refl (ltb (first (count n a) (test a)) (count n a)) refl
    where
      p : ℕ → Bool
      p = any_of n test

      go : (x : Bool) → ltb (first a p) a ≡ x → (y : Bool) → ltb (first (count n a) (test a)) (count n a) ≡ y
          → cond (ltb late (points n)) late
          (cond (ltb (first (count n a) (test a)) (count n a)) (start n a + first (count n a) (test a))
          (points n)) ≡ first_point n test (suc a)
      go true h y k =
          let b = first a p in
          let m : b < a = ltb-true b a h in
          let z : first (suc a) p ≡ b = first_more a p ∙ rw h in
          let w : first (count n b) (test b) < count n b = ltb-true _ _ (found p a m) in
          let f : late ≡ start n b + first (count n b) (test b) = e ∙ sym (at_first n test a b refl m) in
          rw (lt-ltb late (points n) (omega (arith, points_in c b (omega arith))))
          (f ∙ at_first n test (suc a) b (sym z) (omega arith))
      go false h true k =
          let q : first a p ≡ a = omega (arith, ltb-false (first a p) a h, first_le p a) in
          let z : first (suc a) p ≡ a = first_more a p ∙ rw (h, k) in
          let f : late ≡ points n = e ∙ none_first n test a q in
          rw (le-ltb late (points n) (omega arith), k) (at_first n test (suc a) a (sym z) (omega arith))
      go false h false k =
          let q : first a p ≡ a = omega (arith, ltb-false (first a p) a h, first_le p a) in
          let z : first (suc a) p ≡ suc a = first_more a p ∙ rw (h, k) in
          let f : late ≡ points n = e ∙ none_first n test a q in
          rw (le-ltb late (points n) (omega arith), k) (sym (none_first n test (suc a) z))

-- what a scan tells, of an arc and by its point numbers
scanned_of : (n : Network) {P : ℕ} (a : ℕ) {from m : ℕ} (r : Result ℕ ℕ) → P ≡ n.period → from ≡ start n a
    → m ≡ count n a
    → Scanned P (entry_at n.ticks from) (entry_at n.travels from) m r
    → Scanned n.period (ticks_of n a) (travels_of n a) (count n a) r
scanned_of n a r e f g s = rw (e, f, g) at s

-- THE LOOP
module _ (n : Network) (P R Q : ℕ) where
  pub all_start : Counted n → P ≡ n.period → R ≡ arcs n → Q ≡ points n → Q ≤ most_points
      → ScanningAll n P R Q 0 0 Q
  unfolding start
  all_start c d e f g = record {
    counted = c;
    period_is = d;
    arcs_are = e;
    points_are = f;
    few = g;
    within = omega arith;
    from_is = total_none (count n);
    fine = none_yet _;
    late_is = f ∙ sym (none_first n _ 0 (none_yet _));
  }

  -- what the scan of arc a requires
  module _ (a from late m : ℕ) (s : ScanningAll n P R Q a from late) (l : a < R) (e : m ≡ count n a) where
    pub all_room : from + m ≤ Q
    all_room = omega (
      arith,
      s.from_is,
      e,
      s.points_are,
      points_in s.counted a (omega (arith, s.arcs_are)),
    )

    pub all_few : from + m ≤ most_points
    all_few = omega (arith, all_room, s.few)

    pub all_some : 0 < m
    all_some = omega (arith, e, s.counted.some a (omega (arith, s.arcs_are)))

  module _ (a from late m : ℕ) (s : ScanningAll n P R Q a from late) (l : a < R) (e : m ≡ count n a) where
    pub all_stop : (x : ℕ) → Scanned P (entry_at n.ticks from) (entry_at n.travels from) m (Err x)
        → ScannedAll n (Err (from + x))
    all_stop x t =
        let (inside, is) = scanned_of n a (Err x) s.period_is s.from_is e t in
        let k : a < arcs n = omega (arith, s.arcs_are) in
        let b : first (count n a) (bad_point_of n a) < count n a = omega (arith, is, inside) in
        let q : a ≡ first (arcs n) (any_of n (bad_point_of n)) = stop _ (arcs n) a s.fine k (lt-ltb _ _ b) in (
          omega (arith, all_room a from late m s l e, s.points_are, inside, e),
          rw (s.from_is, is) (at_first n (bad_point_of n) (arcs n) a q k),
        )

    pub all_more : (x next : ℕ) → Scanned P (entry_at n.ticks from) (entry_at n.travels from) m (Ok x)
        → next ≡ late_in late Q from m x
        → ScanningAll n P R Q (a + 1) (from + m) next
    unfolding start
    all_more x next t k =
        let (none, is) = scanned_of n a (Ok x) s.period_is s.from_is e t in
        record {
          counted = s.counted;
          period_is = s.period_is;
          arcs_are = s.arcs_are;
          points_are = s.points_are;
          few = s.few;
          within = omega arith;
          from_is = total_more (count n) from m a s.from_is e;
          fine = pass _ a s.fine
              (le-ltb (first (count n a) (bad_point_of n a)) (count n a) (omega (arith, none)));
          late_is = k ∙ rw (s.points_are, s.from_is, e, is, add-one a)
              (first_in n (overtaken_of n) s.counted a late (omega (arith, s.arcs_are)) s.late_is);
        }

  pub all_end : (a from late : ℕ) → ScanningAll n P R Q a from late → R ≤ a
      → ScannedAll n (Ok late)
  all_end a from late s l =
      let q : a ≡ arcs n = omega (arith, s.within, s.arcs_are) in
      (sym (none_first n _ (arcs n) (rw q at s.fine)), rw q at s.late_is)

-- for `search alls` at the needs of that loop
pub ruleset alls = (all_start, all_room, all_some, all_stop, all_more, all_end)
