-- Whether all points keep the rules 9 and 10, yes or no: where the order of the points goes on at all but as
-- many points as there are arcs, and every arc's day closes, no point breaks a rule.
use mathlib.Core.{Path.◌≡◌, Path.refl, Path.sym, Path.◌∙◌, Bool.Bool, Bool.true, Bool.false, Bool.not}
use Rattle.std.specs.Prelude.{ℕ, zero, suc, ◌+◌, ◌-◌, ◌^◌, ◌<◌, ◌≤◌, List, ◌≢◌, Ok}
use native.Mathlib.{Nat.le_of_lt, Decide.dec_lt, Numerals.add-one, Omega.arith}
use borrow.Author.Tests.{le-ltb, not-false}
use Rattle.theory_loops.specs.Count as Count
use Rattle.theory_loops.specs.{First.first, First.all_clear, Total.total, Total.total_none, Total.total_more}
use Rattle.theory_breaks.specs.{Tally.before, Tally.tally_all, Breaks.Begun, Breaks.only_first}
use Rattle.theory_travel.specs.{Day.Day, Day.closed_in, Day.closed_end, Points.climbs, Ticks.ticks_day}
use Rattle.theory_travel.specs.Table.{entry_at, entry_first}
use Rattle.network.specs.declared.header.Layout.{Layout}
use Rattle.network.specs.{Limits.most_period, Decode.decode, Decode.Laid, Decode.laid_sizes, Decode.laid_small}
use Rattle.network.specs.Network.{Network, arcs, points, count, start, tick, travel}
use Rattle.network.specs.{FirstPoint.Counted, FirstPoint.any_of, FirstPoint.none_first, Rules.judged_points}
use Rattle.network.specs.Rules.{bad_point, overtaken, bad_point_of, overtaken_of, ticks_of, travels_of}
use Rattle.network_steady.specs.Joins.{joins, Follows, joined, joins_low, joins_rise, joins_most}
use Rattle.network_steady.specs.Joins.{follows}

-- the day of m points closes
pub record Closed (period : ℕ) (t v : ℕ → ℕ) (m : ℕ) : Type 0 where
  pub start : t 0 ≡ 0
  pub some : 1 ≤ v 0
  pub most : v 0 ≤ period
  pub below : t (m - 1) < period
  pub wrap : t (m - 1) + v (m - 1) ≤ period + v 0

-- and so do those of all arcs
pub record AllClosed (n : Network) : Type 0 where
  pub day : (a : ℕ) → a < arcs n → Closed n.period (ticks_of n a) (travels_of n a) (count n a)

-- ONE ARC: its day closes, and each point follows the one before it
module _ (period : ℕ) (t v : ℕ → ℕ) (m : ℕ) (h : 0 < m) (c : Closed period t v m)
    (on : (i : ℕ) → suc i < m → Follows period (t i) (v i) (t (suc i)) (v (suc i))) where
  some : (i : ℕ) → i < m → 1 ≤ v i
  some zero l = c.some
  some (suc i) l = (on i l).some

  most : (i : ℕ) → i < m → v i ≤ period
  most zero l = c.most
  most (suc i) l = (on i l).most

  below : (i : ℕ) → i < m → t i < period
  below i l =
      omega (
        arith,
        climbs t (m - 1) (λ k o. le_of_lt (on k (omega arith)).rise) i (m - 1) (omega arith) (omega arith),
        c.below,
      )

  pub fine : (i : ℕ) → i < m → bad_point period t v i ≡ false
  unfolding bad_point
  fine i l =
      let day : Day t m period =
      record { some = h; start = c.start; rise = λ k o. (on k o).rise; below = below } in
      rw ((ticks_day period t m h).1 day i l, le-ltb _ _ (some i l), le-ltb _ _ (most i l))

  pub in_turn : (i : ℕ) → i < m → overtaken period t v m i ≡ false
  unfolding overtaken
  in_turn i l = elim (dec_lt (suc i) m) [
    | yes k ↦ rw (closed_in m t period (suc i) k, closed_in m v (v 0) (suc i) k) (le-ltb _ _ (on i k).kept)
    | no k ↦ let e : m - 1 ≡ i = omega arith in
        rw (closed_end m t period (suc i) (omega arith), closed_end m v (v 0) (suc i) (omega arith))
        (le-ltb _ _ (rw e at c.wrap))
  ]

not_yes : (b : Bool) → (b ≢ true) → not b ≡ true
not_yes true h = absurd (h refl)
not_yes false h = refl

-- a test holds at an index, or does not
count_rest : (p : ℕ → Bool) (n : ℕ) → Count.count n p + Count.count n (λ k. not (p k)) ≡ n
count_rest p zero = omega (arith, Count.count_none p, Count.count_none (λ k. not (p k)))
count_rest p (suc n) = go (p n) refl (count_rest p n)
  where
    rest : ℕ → Bool
    rest k = not (p k)

    go : (b : Bool) → p n ≡ b → Count.count n p + Count.count n rest ≡ n
        → Count.count (suc n) p + Count.count (suc n) rest ≡ suc n
    go true e r =
        let y = rw (add-one n) at (Count.count_yes p _ n refl e) in
        let z = rw (add-one n) at (Count.count_no rest _ n refl (rw e)) in
        omega arith
    go false e r =
        let y = rw (add-one n) at (Count.count_no p _ n refl e) in
        let z = rw (add-one n) at (Count.count_yes rest _ n refl (rw e)) in
        omega arith

-- ALL ARCS
module _ (n : Network) (small : n.period ≤ most_period) (c : Counted n) (d : AllClosed n)
    (few : Count.count (points n) (joined n.period (tick n) (travel n)) + arcs n ≡ points n) where
  abbrev breaks : ℕ → Bool
  breaks k = not (joined n.period (tick n) (travel n) k)

  next : (a : ℕ) → start n (suc a) ≡ start n a + count n a
  unfolding start
  next a = rw (← add-one a) (sym (total_more (count n) (total a (count n)) (count n a) a refl refl))

  -- the point before an arc's first is the last of the arc before it, whose day closes
  before_low : (a : ℕ) → a < arcs n → before (tick n) (start n a) < 2 ^ 15
  unfolding before start entry_at
  before_low zero l = rw (sym (total_none (count n))) (omega arith)
  before_low (suc a) l =
      let h : a < arcs n = omega arith in
      let z : start n (suc a) ≡ suc (start n a + (count n a - 1)) = omega (arith, next a, c.some a h) in
      rw z (omega (arith, (d.day a h).below))

  -- each arc's first point is a break
  begun : Begun breaks (λ _. true) (start n) (arcs n)
  unfolding joined
  begun = record {
    grows = λ a l. omega (arith, next a);
    some = λ a l _. omega (arith, next a, c.some a l);
    first = λ a l _.
        let z : tick n (start n a) ≡ 0 = entry_first n.ticks (start n a) ∙ (d.day a l).start in
        not_yes (joined n.period (tick n) (travel n) (start n a))
        (λ j. omega (arith, joins_rise n.period _ _ _ _ (before_low a l) j));
  }

  module _ (a : ℕ) (l : a < arcs n) where
    -- and no other
    inside : (i : ℕ) → suc i < count n a
        → joins n.period (ticks_of n a i) (travels_of n a i) (ticks_of n a (suc i)) (travels_of n a (suc i))
        ≡ true
    unfolding entry_at joined before
    inside i k =
        let z : start n a + suc i ≡ suc (start n a + i) = omega arith in
        let o : Count.count (start n (arcs n)) breaks ≤ Count.count (arcs n) (λ _. true) =
        rw (c.sum, tally_all (arcs n))
        (omega (arith, count_rest (joined n.period (tick n) (travel n)) (points n))) in
        rw z
        (not-false _ (only_first _ _ (start n) (arcs n) begun o a (suc (start n a + i)) l (omega arith)
        (omega (arith, next a))))

    -- so each point is in range, and follows on the one before
    ranged : (i : ℕ) → i < count n a → (ticks_of n a i < 2 ^ 15) × (travels_of n a i ≤ n.period)
    ranged zero h = (omega (arith, (d.day a l).start), (d.day a l).most)
    ranged (suc i) h =
        let (s, w) = ranged i (omega arith) in
        (joins_low _ _ _ _ _ s (inside i h), joins_most _ _ _ _ _ s (inside i h) small)

    on : (i : ℕ) → suc i < count n a
        → Follows n.period (ticks_of n a i) (travels_of n a i) (ticks_of n a (suc i)) (travels_of n a (suc i))
    on i h = let (s, w) = ranged i (omega arith) in follows _ _ _ _ _ s (inside i h) small w

    arc_fine : any_of n (bad_point_of n) a ≡ false
    arc_fine =
        let f = all_clear (bad_point_of n a) (count n a) (fine _ _ _ _ (c.some a l) (d.day a l) on) in
        le-ltb (first (count n a) (bad_point_of n a)) (count n a) (omega arith)

    arc_in_turn : any_of n (overtaken_of n) a ≡ false
    arc_in_turn =
        let f = all_clear (overtaken_of n a) (count n a) (in_turn _ _ _ _ (c.some a l) (d.day a l) on) in
        le-ltb (first (count n a) (overtaken_of n a)) (count n a) (omega arith)

  -- THE LAW
  pub steady_sound : (Ok tt) ≡ judged_points n
  unfolding judged_points
  steady_sound =
      rw (
        none_first n (bad_point_of n) (arcs n) (all_clear _ (arcs n) arc_fine),
        none_first n (overtaken_of n) (arcs n) (all_clear _ (arcs n) arc_in_turn),
        le-ltb (points n) (points n) (omega arith),
      )

-- FOR CODE that has counted where the order of a file's points goes on, and asked whether all days close
module _ {file : List ℕ} {l : Layout} (s : Laid file l) where
  pub steady_no : false ≡ true → Ok tt ≡ judged_points (decode file)
  steady_no e = let z : ◌≡◌ {A = ℕ} 0 1 = cc in absurd (omega arith)

  pub steady_yes : (k : ℕ) (b : Bool) → Counted (decode file)
      → k ≡ Count.count (points (decode file))
      (joined l.period (tick (decode file)) (travel (decode file)))
      → k + l.arcs ≡ l.points → (b ≡ true → AllClosed (decode file)) → b ≡ true
      → Ok tt ≡ judged_points (decode file)
  steady_yes k b c e f g h =
      let w = laid_sizes s in
      let q = rw w.period at e in
      steady_sound (decode file) (rw w.period at (laid_small s).period_most) c (g h)
      (rw (q, w.arcs, w.points) at f)

-- for `search steadies` where the code answers
pub ruleset steadies = (steady_no, steady_yes)
