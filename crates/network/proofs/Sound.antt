-- What the rules 7 to 10 and 37 ask of a network, said of its nodes, arcs and points (`SoundNetwork`). The
-- ladder of tests judges a network sound exactly when this holds (`sound_exactly`).
use mathlib.Core.{Path.◌≡◌, Path.refl, Path.◌∙◌, Logic.◌↔◌, Bool.Bool, Bool.false}
use Rattle.file_refusals.specs.declared.Refusal.{Refusal}
use Rattle.file_refusals.specs.{Refusal.refusal, Refusal.refused, Apart.not_both}
use Rattle.std.specs.Prelude.{ℕ, zero, suc, ◌≤◌, ◌<◌, Result, Ok, ⊤}
use native.Mathlib.{Omega.arith, Decide.dec_lt}
use borrow.Author.Tests.{ltb-true, ltb-false, leb-false, eqb-true, eqb-false, not-false, lt-leb, le-ltb}
use borrow.Author.Tests.{eq-eqb, ne_eqb}
use Rattle.theory_loops.specs.First.{first, first_le, clear, all_clear, found}
use Rattle.theory_loops.specs.Pick.{or_passed, passed_by_lem, reached_by, rung_passed, rung_clear}
use Rattle.theory_travel.specs.{Day.closed_in}
use Rattle.theory_travel.specs.Ticks.{bad_tick, ticks_day}
use Rattle.network.specs.Network.{Network, nodes, arcs, points, opens_at, closes_at}
use Rattle.network.specs.Network.{count, start}
use Rattle.network.specs.Rules.{
  bad_cell,
  part_of_day,
  bad_hours,
  bad_hours_of,
  bad_ends,
  bad_arc,
  bad_point,
  overtaken,
  ticks_of,
  travels_of,
  bad_point_of,
  overtaken_of,
  first_point,
  judged_points,
  judged_sum,
  judged_arcs,
  judged_hours,
  judged,
}
use Rattle.network.specs.FirstPoint.{Counted, any_of, points_in, none_first, at_first}
use Rattle.network.specs.Sound.{SoundArc, SoundPoints, SoundHours, SoundNetwork}

-- TESTS THAT FAIL, and what they then say
module _ (n : Network) (a : ℕ) where
  pub arc_sound : bad_arc n a ≡ false → SoundArc n a
  unfolding bad_ends
  arc_sound e =
      let (t, e₁) = or_passed _ _ e in
      let (h, e₂) = or_passed _ _ e₁ in
      let (d, e₃) = or_passed _ _ e₂ in
      let (s, m) = or_passed _ _ e₃ in
      record {
        tail_node = leb-false _ _ t;
        head_node = leb-false _ _ h;
        apart = eqb-false _ _ d;
        some = ltb-false _ _ s;
        most = ltb-false _ _ m;
      }

  sound_arc : SoundArc n a → bad_arc n a ≡ false
  unfolding bad_ends
  sound_arc s = rw (
    lt-leb _ _ s.tail_node,
    lt-leb _ _ s.head_node,
    ne_eqb _ _ s.apart,
    le-ltb _ _ s.some,
    le-ltb _ _ s.most,
  )

-- 37 is kept by hours that are sound
part_sound : (hours period opens closes : ℕ) → part_of_day hours period opens closes ≡ false → hours ≡ 0
    → (opens ≡ 0) × (closes ≡ period)
unfolding part_of_day
part_sound hours period opens closes e z =
    let (a, b) = or_passed _ _ (rw (eq-eqb hours 0 z) at e) in
    (eqb-true _ _ (not-false _ a), eqb-true _ _ (not-false _ b))

sound_part : (hours period opens closes : ℕ) → (hours ≡ 0 → (opens ≡ 0) × (closes ≡ period))
    → part_of_day hours period opens closes ≡ false
unfolding part_of_day
sound_part zero period opens closes f =
    rw (eq-eqb opens 0 (f refl).0, eq-eqb closes period (f refl).1)
sound_part (suc hours) period opens closes f = rw (ne_eqb (suc hours) 0 (λ e. omega arith))

module _ (n : Network) (v : ℕ) where
  pub hours_sound : bad_hours_of n v ≡ false → SoundHours n v
  unfolding bad_hours
  hours_sound e =
      let (a, e₁) = or_passed _ _ e in
      let (b, e₂) = or_passed _ _ e₁ in
      record {
        some = leb-false _ _ a;
        within = ltb-false _ _ b;
        all_day = part_sound n.hours n.period (opens_at n v) (closes_at n v) e₂;
      }

  pub sound_hours : SoundHours n v → bad_hours_of n v ≡ false
  unfolding bad_hours
  sound_hours s = rw (
    lt-leb _ _ s.some,
    le-ltb _ _ s.within,
    sound_part n.hours n.period (opens_at n v) (closes_at n v) s.all_day,
  )

-- a test that holds at no point of any arc
module _ (n : Network) (test : ℕ → ℕ → Bool) where
  clear_points : Counted n → points n ≤ first_point n test (arcs n) → (a i : ℕ) → a < arcs n → i < count n a
      → test a i ≡ false
  clear_points c h a i l m = clear (test a) (count n a) (all_clear a l) i m
    where
      R : ℕ
      R = first (arcs n) (any_of n test)

      -- were there a first such point, it would stand before the end
      passed : R ≡ arcs n
      passed = elim (dec_lt R (arcs n)) [
        | yes k ↦ absurd (omega (
          arith,
          at_first n test (arcs n) R refl k,
          points_in c R k,
          ltb-true (first (count n R) (test R)) (count n R) (found (any_of n test) (arcs n) k),
        ))
        | no k ↦ omega (arith, first_le (any_of n test) (arcs n))
      ]

      all_clear : (a : ℕ) → a < arcs n → first (count n a) (test a) ≡ count n a
      all_clear a l = omega (
        arith,
        ltb-false (first (count n a) (test a)) (count n a)
            (clear (any_of n test) (arcs n) passed a l),
        first_le (test a) (count n a),
      )

  none_points : ((a i : ℕ) → a < arcs n → i < count n a → test a i ≡ false)
      → first_point n test (arcs n) ≡ points n
  none_points h = none_first n test (arcs n)
      (all_clear (any_of n test) (arcs n)
      (λ a l. le-ltb (first (count n a) (test a)) (count n a)
      (omega (arith, all_clear (test a) (count n a) (λ i m. h a i l m)))))

module _ (n : Network) (a : ℕ) where
  -- what rule 9 says of a point that keeps it
  point_fine : (i : ℕ) → bad_point_of n a i ≡ false
      → (bad_tick n.period (ticks_of n a) i ≡ false) × (1 ≤ travels_of n a i) × (travels_of n a i ≤ n.period)
  unfolding bad_point
  point_fine i e =
      let (b, w) = or_passed _ _ e in
      let (s, m) = or_passed _ _ w in
      (b, ltb-false _ _ s, ltb-false _ _ m)

  points_sound_lem : 0 < count n a → ((i : ℕ) → i < count n a → bad_point_of n a i ≡ false)
      → ((i : ℕ) → i < count n a → overtaken_of n a i ≡ false) → SoundPoints n a
  unfolding overtaken
  points_sound_lem h f g = record {
    day = (ticks_day n.period (ticks_of n a) (count n a) h).0 (λ i l. (point_fine i (f i l)).0);
    travel_some = λ i l. (point_fine i (f i l)).1;
    travel_most = λ i l. (point_fine i (f i l)).2;
    fifo = record {
      kept = λ i l.
          rw (closed_in _ (ticks_of n a) n.period i l, closed_in _ (travels_of n a) (travels_of n a 0) i l)
          (ltb-false _ _ (g i l));
    };
  }

  sound_fine : SoundPoints n a → (i : ℕ) → i < count n a → bad_point_of n a i ≡ false
  unfolding bad_point
  sound_fine s i l = rw (
    (ticks_day n.period (ticks_of n a) (count n a) s.day.some).1 s.day i l,
    le-ltb _ _ (s.travel_some i l),
    le-ltb _ _ (s.travel_most i l),
  )

  sound_kept : SoundPoints n a → (i : ℕ) → i < count n a → overtaken_of n a i ≡ false
  unfolding overtaken
  sound_kept s i l = le-ltb _ _
      (rw (closed_in _ (ticks_of n a) n.period i l, closed_in _ (travels_of n a) (travels_of n a 0) i l) at
      (s.fifo.kept i l))

-- where no point of any arc breaks 9 or 10
pub points_clear : (n : Network)
    → ((a i : ℕ) → a < arcs n → i < count n a → bad_point_of n a i ≡ false)
    → ((a i : ℕ) → a < arcs n → i < count n a → overtaken_of n a i ≡ false) → judged_points n ≡ Ok tt
unfolding judged_points
points_clear n f g =
    rw (
      none_points n (bad_point_of n) f,
      none_points n (overtaken_of n) g,
      le-ltb (points n) (points n) (omega arith),
    )

-- no fault is sound
not_sound : (number place : ℕ) → ◌≡◌ {A = Result ⊤ Refusal} (refused number place) (Ok tt) → ⊥
not_sound number place = not_both (refusal number place) tt

-- THE LADDER judges sound exactly where the rules hold
judged_sound : (n : Network) → judged n ≡ Ok tt → SoundNetwork n
unfolding judged judged_hours judged_arcs judged_sum judged_points
judged_sound n e =
    let (c, e₀) = rung_passed (refused 7) (nodes n) (bad_cell n) _ (Ok tt) (λ i _. not_sound 7 i) e in
    let (o, e₁) = rung_passed (refused 37) (nodes n) (bad_hours_of n) _ (Ok tt) (λ i _. not_sound 37 i) e₀ in
    let (r, e₂) = rung_passed (refused 8) (arcs n) (bad_arc n) _ (Ok tt) (λ i _. not_sound 8 i) e₁ in
    let (s, e₃) = reached_by _ _ _ (Ok tt) (not_sound 8 (arcs n)) e₂ in
    let (p, e₄) = passed_by_lem _ _ _ (Ok tt) (not_sound 9 _) e₃ in
    let (q, e₅) = passed_by_lem _ _ _ (Ok tt) (not_sound 10 _) e₄ in
    let sum : start n (arcs n) ≡ points n = eqb-true _ _ s in
    let counted : Counted n = record { some = λ a l. (arc_sound n a (r a l)).some; sum = sum } in
    record {
      cells_below = λ v l. leb-false _ _ (c v l);
      hours = λ v l. hours_sound n v (o v l);
      arc = λ a l. arc_sound n a (r a l);
      sum = sum;
      points_of = λ a l. points_sound_lem n a (counted.some a l)
          (λ i m. clear_points n (bad_point_of n) counted (ltb-false _ _ p) a i l m)
          (λ i m. clear_points n (overtaken_of n) counted (ltb-false _ _ q) a i l m);
    }

sound_judged : (n : Network) → SoundNetwork n → judged n ≡ Ok tt
unfolding judged judged_hours judged_arcs judged_sum
sound_judged n s =
    rung_clear (refused 7) (nodes n) (bad_cell n) _ (λ v l. lt-leb _ _ (s.cells_below v l))
    ∙ rung_clear (refused 37) (nodes n) (bad_hours_of n) _ (λ v l. sound_hours n v (s.hours v l))
    ∙ rung_clear (refused 8) (arcs n) (bad_arc n) _ (λ a l. sound_arc n a (s.arc a l))
    ∙ rw (eq-eqb (start n (arcs n)) (points n) s.sum)
    (points_clear n (λ a i l m. sound_fine n a (s.points_of a l) i m)
    (λ a i l m. sound_kept n a (s.points_of a l) i m))

pub sound_exactly : (n : Network) → (judged n ≡ Ok tt) ↔ SoundNetwork n
sound_exactly n = (judged_sound n, sound_judged n)
