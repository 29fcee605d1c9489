-- What the rules 17 to 19 ask of a plan for a network, said of its arcs and profiles (`WellFormed`). The
-- ladder of tests judges a plan sound exactly when this holds (`well_formed_exactly`).
use mathlib.Core.{Path.◌≡◌, Path.◌∙◌, Logic.◌↔◌, Bool.false}
use Rattle.file_refusals.specs.declared.Refusal.{Refusal}
use Rattle.file_refusals.specs.{Refusal.refusal, Refusal.refused, Apart.not_both}
use Rattle.std.specs.Prelude.{ℕ, ◌^◌, ◌≤◌, ◌<◌, Result, Ok, ⊤}
use native.Mathlib.Omega.{arith}
use borrow.Author.Tests.{ltb-false, leb-false, eqb-true, lt-leb, le-ltb, eq-eqb}
use Rattle.theory_loops.specs.First.{first, first_le, clear, all_clear}
use Rattle.theory_loops.specs.Pick.{reached_by, rung_passed, rung_clear}
use Rattle.theory_travel.specs.{Day.Day, Ticks.bad_tick, Ticks.ticks_day}
use Rattle.network.specs.Network.{Network, arcs}
use Rattle.plan.specs.Plan.{Plan, point_count, point_start, point_ticks}
use Rattle.plan.specs.PlanDecode.{flag_word, point_total}
use Rattle.plan.specs.PlanRules.{bad_flags, bad_count, bad_profile, first_bad_point, judged_ticks}
use Rattle.plan.specs.PlanRules.{judged_sum, judged_counts, judged_flags, profiles, plan_judged}

pub record WellFormed (n : Network) (p : Plan) : Type 0 where
  -- 17: flags of the network's cells alone
  pub flags_below : (a : ℕ) → a < arcs n → flag_word p a < 2 ^ n.cells
  -- 18: no more points than ticks, and all points are some profile's
  pub counts_most : (k : ℕ) → k < profiles n → point_count p k ≤ n.period
  pub sum : point_start p (profiles n) ≡ point_total p
  -- 19: the points of a profile that has some are a day's
  pub days : (k : ℕ) → k < profiles n → 0 < point_count p k → Day (point_ticks p k) (point_count p k) n.period

module _ (period : ℕ) (p : Plan) (k : ℕ) where
  profile_day : bad_profile period p k ≡ false → 0 < point_count p k
      → Day (point_ticks p k) (point_count p k) period
  unfolding bad_profile
  profile_day e some =
      let bad = bad_tick period (point_ticks p k) in
      let q : first (point_count p k) bad ≡ point_count p k =
      omega
      (arith, ltb-false (first (point_count p k) bad) (point_count p k) e, first_le bad (point_count p k)) in
      (ticks_day period (point_ticks p k) (point_count p k) some).0 (clear bad (point_count p k) q)

  day_profile : (0 < point_count p k → Day (point_ticks p k) (point_count p k) period)
      → bad_profile period p k ≡ false
  unfolding bad_profile
  day_profile d =
      let bad = bad_tick period (point_ticks p k) in
      le-ltb (first (point_count p k) bad) (point_count p k)
      (omega (arith, all_clear bad (point_count p k) fine))
    where
      fine : (i : ℕ) → i < point_count p k → bad_tick period (point_ticks p k) i ≡ false
      fine i l =
          let some : 0 < point_count p k = omega arith in
          (ticks_day period (point_ticks p k) (point_count p k) some).1 (d some) i l

-- no fault is sound
not_sound : (number place : ℕ) → ◌≡◌ {A = Result ⊤ Refusal} (refused number place) (Ok tt) → ⊥
not_sound number place = not_both (refusal number place) tt

module _ (n : Network) (p : Plan) where
  judged_well : plan_judged n p ≡ Ok tt → WellFormed n p
  unfolding judged_flags judged_counts judged_sum judged_ticks
  judged_well e =
      let (f, e₁) =
      rung_passed (refused 17) (arcs n) (bad_flags n.cells p) _ (Ok tt) (λ i _. not_sound 17 i) e in
      let (c, e₂) =
      rung_passed (refused 18) (profiles n) (bad_count n.period p) _ (Ok tt) (λ i _. not_sound 18 i) e₁ in
      let (s, e₃) = reached_by _ _ _ (Ok tt) (not_sound 18 (profiles n)) e₂ in
      let (t, _) =
      rung_passed (λ k. refused 19 (first_bad_point n.period p k)) (profiles n)
      (bad_profile n.period p) _ (Ok tt)
      (λ k _. not_sound 19 (first_bad_point n.period p k)) e₃ in
      record {
        flags_below = λ a l. leb-false _ _ (f a l);
        counts_most = λ k l. ltb-false _ _ (c k l);
        sum = eqb-true _ _ s;
        days = λ k l. profile_day n.period p k (t k l);
      }

  well_judged : WellFormed n p → plan_judged n p ≡ Ok tt
  unfolding judged_flags judged_counts judged_sum judged_ticks
  well_judged w =
      rung_clear (refused 17) (arcs n) (bad_flags n.cells p) _ (λ a l. lt-leb _ _ (w.flags_below a l))
      ∙ rung_clear (refused 18) (profiles n) (bad_count n.period p) _
      (λ k l. le-ltb _ _ (w.counts_most k l))
      ∙ rw (eq-eqb (point_start p (profiles n)) (point_total p) w.sum)
      (rung_clear (λ k. refused 19 (first_bad_point n.period p k)) (profiles n) (bad_profile n.period p) _
      (λ k l. day_profile n.period p k (w.days k l)))

  pub well_formed_exactly : (plan_judged n p ≡ Ok tt) ↔ WellFormed n p
  well_formed_exactly = (judged_well, well_judged)
