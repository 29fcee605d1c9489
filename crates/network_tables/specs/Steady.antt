-- Why the points of all arcs keep the rules 9 and 10 where each of them is in order with the one after it
-- (Pairs), the days of all arcs close (`Closed`), and no more points than arcs have tick 0: then only the
-- first points of arcs have it.
use Rattle.std.specs.Prelude.{Ok}
use mathlib.Core.{Path.◌≡◌, Path.refl, Path.sym, Path.ap, Bool.Bool, Bool.true, Bool.false}
use Prim.Native.Nat.{ℕ, zero, suc, ◌+◌, ◌-◌, ◌≤◌, ◌<◌}
use native.Mathlib.{Nat.le_of_lt, Numerals.add-one, Omega.arith, Decide.dec_lt}
use Rattle.std.proofs.Math.ListN.{get_or}
use Rattle.std.proofs.Common.{eq-eqb}
use Rattle.theory_loops.specs.Count.{count, count_grows, count_rises}
use Rattle.theory_loops.specs.Total.{total_none, total_more}
use Rattle.theory_travel.specs.{Points.climbs, Table.entry_at}
use Rattle.network.specs.{Network.Network, Network.arcs, Network.points, Network.start, Limits.most_period}
use Rattle.network.specs.Network as net
use Rattle.network.specs.{Rules.ticks_of, Rules.travels_of, Rules.judged_points}
use Rattle.network.proofs.Sound.{points_clear}
use Rattle.network.specs.FirstPoint.{Counted, points_in}
use Rattle.network_steady.specs.Joins.{Follows}
use Rattle.network_steady.specs.Steady as order
use Rattle.network_tables.specs.declared.steady.Pairs.{Pairs}
use Rattle.network_tables.specs.Pairs.{Ordered, Paired, start_after}

-- a day whose first point has tick t and travel v, and whose last has tick u and travel w
pub record Closed (period t v u w : ℕ) : Type 0 where
  pub first : t ≡ 0
  pub some : 1 ≤ w
  pub most : w ≤ period
  pub below : u < period
  pub end : u + w ≤ period + v

pub not_closed : (period t v u w : ℕ) → false ≡ true → Closed period t v u w
not_closed period t v u w e = let z : ◌≡◌ {A = ℕ} 0 1 = cc in absurd (omega arith)

-- by entries that code has read
pub closed_read : {period t v u w x y z r : ℕ} → x ≡ t → y ≡ v → z ≡ u → r ≡ w → Closed period x y z r
    → Closed period t v u w
closed_read e f g h d = rw (e, f, g, h) at d

-- the days of the first k arcs
pub record AllClosed (n : Network) (k : ℕ) : Type 0 where
  pub closed : (a : ℕ) → a < k
      → Closed n.period (ticks_of n a 0) (travels_of n a 0) (ticks_of n a (net.count n a - 1))
      (travels_of n a (net.count n a - 1))

start_more : (n : Network) (a : ℕ) → start n (a + 1) ≡ start n a + net.count n a
unfolding start
start_more n a = sym (total_more (net.count n) (start n a) (net.count n a) a refl refl)

-- FOR THE LOOP over the arcs, before arc a, whose points start at `from`
pub record Closing (n : Network) (a from : ℕ) : Type 0 where
  pub counted : Counted n
  pub from_is : from ≡ start n a
  pub all : AllClosed n a

pub closing_none : (n : Network) → Counted n → Closing n 0 0
unfolding start
closing_none n c = record {
  counted = c;
  from_is = total_none (net.count n);
  all = record { closed = λ a h. absurd (omega arith) };
}

module _ (n : Network) (a from m : ℕ) (s : Closing n a from) (l : a < arcs n) (e : m ≡ net.count n a)
  where
    pub closing_some : 0 < m
    closing_some = omega (arith, e, s.counted.some a l)

    pub closing_room : from + m ≤ points n
    closing_room = omega (arith, e, s.from_is, points_in s.counted a l)

    pub closing_more : Closed n.period (get_or n.ticks from 0) (get_or n.travels from 0)
        (get_or n.ticks (from + m - 1) 0) (get_or n.travels (from + m - 1) 0) → Closing n (a + 1) (from + m)
    unfolding entry_at
    closing_more d = record {
      counted = s.counted;
      from_is = omega (arith, start_more n a, s.from_is, e);
      all = record {
        closed = λ b i. elim (dec_lt b a) [
          | yes j ↦ s.all.closed b j
          | no j ↦
              let o : a ≡ b = omega arith in
              let q : from + m - 1 ≡ start n a + (net.count n a - 1) =
              omega (arith, closing_some, s.from_is, e) in
              let z : from ≡ start n a + 0 = omega (arith, s.from_is) in
              rw o at (rw (q, z) at d)
        ];
      };
    }

pub closing_all : (n : Network) (a from k : ℕ) → Closing n a from → a ≤ k → k ≤ a → AllClosed n k
closing_all n a from k s h l = let q : a ≡ k = omega arith in rw q at s.all

pub not_all : (n : Network) (k : ℕ) → false ≡ true → AllClosed n k
not_all n k e = let z : ◌≡◌ {A = ℕ} 0 1 = cc in absurd (omega arith)

-- for `search closings` at the needs of that loop
pub ruleset closings = (closing_none, closing_some, closing_room, closing_more, closing_all, not_all)

-- NO OTHER TICK IS 0
module _ (n : Network) (c : Counted n) (d : AllClosed n (arcs n)) (m : ℕ) (whole : m + 1 ≡ points n) where
  abbrev p : ℕ → Bool
  p = start_after n.ticks

  -- the first point of an arc after the first
  first_zero : (a : ℕ) → a + 1 < arcs n → p (start n (a + 1) - 1) ≡ true
  unfolding entry_at
  first_zero a l =
      let s : 0 < net.count n a = c.some a (omega arith) in
      let q : start n (a + 1) - 1 + 1 ≡ start n (a + 1) + 0 = omega (arith, start_more n a) in
      rw q (eq-eqb _ 0 (d.closed (a + 1) l).first)

  rises : (a x : ℕ) → a + 1 < arcs n → x < start n (a + 1) → count x p < count (start n (a + 1)) p
  rises a x l h =
      omega (
        arith,
        count_grows p x (start n (a + 1) - 1) (omega arith),
        count_rises p (start n (a + 1) - 1) (start n (a + 1)) (omega arith) (first_zero a l),
      )

  -- before and after
  head : (a : ℕ) → a < arcs n → a ≤ count (start n a) p
  head zero l = omega arith
  head (suc a) l =
      let i : a + 1 ≡ suc a = add-one a in
      let s : 0 < net.count n a = c.some a (omega arith) in
      let q : a + 1 ≤ count (start n (a + 1)) p =
      omega (
        arith,
        head a (omega arith),
        rises a (start n a) (omega arith) (omega (arith, start_more n a)),
      ) in
      rw i at q

  tail : (k a x : ℕ) → a + k + 1 ≡ arcs n → x < start n (a + 1) → count x p + k ≤ count m p
  tail zero a x e h =
      let q : a + 1 ≡ arcs n = omega arith in
      omega (arith, count_grows p x m (omega (arith, c.sum, ap (start n) q)))
  tail (suc k) a x e h =
      let s : 0 < net.count n (a + 1) = c.some (a + 1) (omega arith) in
      omega (
        arith,
        rises a x (omega arith) h,
        tail k (a + 1) (start n (a + 1)) (omega arith) (omega (arith, start_more n (a + 1))),
      )

  module _ (few : count m p + 1 ≡ arcs n) where
    later : (a i : ℕ) → a < arcs n → suc i < net.count n a → get_or n.ticks (start n a + i + 1) 0 ≡ 0 → ⊥
    later a i l h z =
        let x = start n a + i in
        omega (
          arith,
          head a l,
          count_grows p (start n a) x (omega arith),
          count_rises p x (x + 1) (omega arith) (eq-eqb _ 0 z),
          tail (arcs n - a - 1) a (x + 1) (omega arith) (omega (arith, start_more n a)),
        )

    -- EVERY ARC is steady
    module _ (small : n.period ≤ most_period)
        (o : (q : ℕ) → q < m → Ordered n.period (get_or n.ticks q 0) (get_or n.travels q 0)
        (get_or n.ticks (q + 1) 0) (get_or n.travels (q + 1) 0)) (a : ℕ) (l : a < arcs n) where
      abbrev t : ℕ → ℕ
      t = ticks_of n a

      abbrev v : ℕ → ℕ
      v = travels_of n a

      abbrev K : ℕ
      K = net.count n a

      -- two points of the arc
      at : (i : ℕ) → suc i < K → Ordered n.period (t i) (v i) (t (suc i)) (v (suc i))
      unfolding entry_at
      at i h =
          let z : start n a + i + 1 ≡ start n a + suc i = omega arith in
          rw z at (o (start n a + i) (omega (arith, points_in c a l)))

      above : (i : ℕ) → suc i < K → 0 < t (suc i)
      unfolding entry_at
      above i h = elim (dec_lt 0 (t (suc i))) [
        | yes g ↦ g
        | no g ↦
            let z : start n a + suc i ≡ start n a + i + 1 = omega arith in
            let y : get_or n.ticks (start n a + suc i) 0 ≡ 0 = omega arith in
            absurd (later a i l h (rw z at y))
      ]

      rise : (i : ℕ) → suc i < K → t i < t (suc i)
      rise i h = (at i h).rise (above i h)

      last : (i : ℕ) → i < K → t i ≤ t (K - 1)
      last i h =
          climbs t (K - 1) (λ j g. le_of_lt (rise j (omega arith))) i (K - 1) (omega arith) (omega arith)

      some : (i : ℕ) → i < K → 1 ≤ v i
      some i h = elim (dec_lt (suc i) K) [
        | yes g ↦ (at i g).some
        | no g ↦ let q : K - 1 ≡ i = omega arith in rw q at (d.closed a l).some
      ]

      most : (i : ℕ) → i < K → v i ≤ n.period
      most i h = elim (dec_lt (suc i) K) [
        | yes g ↦ (at i g).most
        | no g ↦ let q : K - 1 ≡ i = omega arith in rw q at (d.closed a l).most
      ]

      kept : (i : ℕ) → suc i < K → t i + v i ≤ t (suc i) + v (suc i)
      kept i h = (at i h).kept (above i h)
          (omega (arith, last (suc i) h, (d.closed a l).below, most (suc i) h))

      day : order.Closed n.period (ticks_of n a) (travels_of n a) (net.count n a)
      day = record {
        start = (d.closed a l).first;
        some = some 0 (c.some a l);
        most = most 0 (c.some a l);
        below = (d.closed a l).below;
        wrap = (d.closed a l).end;
      }

      on : (i : ℕ) → suc i < K → Follows n.period (t i) (v i) (t (suc i)) (v (suc i))
      on i h = record { rise = rise i h; kept = kept i h; some = some (suc i) h; most = most (suc i) h }

    pub all_steady : n.period ≤ most_period
        → ((q : ℕ) → q < m → Ordered n.period (get_or n.ticks q 0) (get_or n.travels q 0)
        (get_or n.ticks (q + 1) 0) (get_or n.travels (q + 1) 0)) → judged_points n ≡ Ok tt
    all_steady small o = points_clear n
        (λ a i l h. order.fine _ _ _ _ (c.some a l) (day small o a l) (on small o a l) i h)
        (λ a i l h. order.in_turn _ _ _ _ (c.some a l) (day small o a l) (on small o a l) i h)

-- FOR THE CODE
pub no_points : (n : Network) → Counted n → points n ≡ 0 → judged_points n ≡ Ok tt
no_points n c z = points_clear n (λ a i l h. absurd (none a l)) (λ a i l h. absurd (none a l))
  where
    none : (a : ℕ) → a < arcs n → ⊥
    none a l = omega (arith, points_in c a l, c.some a l)

pub not_steady : (n : Network) → false ≡ true → judged_points n ≡ Ok tt
not_steady n e = let z : ◌≡◌ {A = ℕ} 0 1 = cc in absurd (omega arith)

pub steady_told : (n : Network) (r : Pairs) → Counted n → n.period ≤ most_period → 0 < points n
    → Paired n.period n.ticks n.travels (points n - 1) r → r.fault ≤ 0 → r.starts + 1 ≡ arcs n
    → AllClosed n (arcs n) → judged_points n ≡ Ok tt
steady_told n r c small h p z s d =
    all_steady n c d (points n - 1) (omega arith) (omega (arith, p.starts)) small (p.ordered (omega arith))
