-- The pass over all profiles that judges rules 18 and 19 together: the invariant of its loop, the laws of
-- each step, and its answer. The points are scanned as long as they stand in the file and none is bad; the
-- counts are read to their end, since rule 18 comes before rule 19.
use Rattle.file_refusals.specs.Refusal.{refused}
use Rattle.std.specs.Prelude.{◌≡◌, refl, Bool, ℕ, suc, ◌+◌, ◌*◌, ◌≤◌, ◌<◌, Result, Ok, Err, MatchResult, ⊤}
use Rattle.std.proofs.Math.Path.{sym, ap}
use Rattle.std.proofs.Common.{◌∙◌}
use Rattle.std.proofs.Math.Bool.{true, false}
use native.Mathlib.{Numerals.add-one, Omega.arith}
use borrow.Author.Tests.{lt-ltb, le-ltb, eq-eqb, ne_eqb, ltb-true}
use Rattle.theory_loops.specs.First.{first, any, first_le, found, none_yet, pass, stop, done, first_more}
use Rattle.theory_loops.specs.Pick.{first_rung, at_first, past_first}
use Rattle.theory_loops.specs.Total.{total_none, total_more, total_part}
use Rattle.theory_travel.specs.Ticks.{bad_tick}
use Rattle.file_blocks.specs.declared.walk.Walk.{Walk}
use Rattle.plan.specs.declared.header.PlanLayout.{PlanLayout}
use Rattle.plan.specs.Plan.{Plan, point_count, point_start, point_ticks}
use Rattle.plan.specs.PlanDecode.{point_total}
use Rattle.plan.specs.{PlanWalk.count_at, PlanWalk.point_at, PlanRules.judged_counts}
use Rattle.plan.specs.PlanRules.{bad_count, bad_profile, first_bad_point, judged_ticks, judged_sum}
use Rattle.file_refusals.specs.declared.Refusal.{Refusal}
use Rattle.plan_rules.specs.PlanScan.{Scanned}

-- ONE PROFILE MORE
-- where nothing is found and all points before number `from` stand in the file, the walk stands there
abbrev pub Standing : (l : PlanLayout) (from : ℕ) → Result Walk ℕ → Type 0
Standing l from scan = (at : Walk) → scan ≡ Ok at → from ≤ l.points → at ≡ point_at l.pointblock from

-- what is found stays; else m points more are scanned if they stand in the file
pub record ScannedOn (p : Plan) (l : PlanLayout) (from m : ℕ) (old new : Result Walk ℕ) : Type 0 where
  pub kept : (bad : ℕ) → old ≡ Err bad → new ≡ Err bad
  pub told : (at : Walk) → old ≡ Ok at → from + m ≤ l.points → Scanned p l from m new

err_ok : {bad : ℕ} {at : Walk} {A : Type 0} → Err bad ≡ Ok at → A
err_ok e = let z : ◌≡◌ {A = ℕ} 0 1 = cc in absurd (omega arith)

module _ (p : Plan) (l : PlanLayout) (from m : ℕ) where
  pub on_found : (bad : ℕ) → ScannedOn p l from m (Err bad) (Err bad)
  on_found bad = record { kept = λ _ e. e; told = λ _ e. err_ok e }

  module _ (at : Walk) where
    pub on_outside : l.points < from + m → ScannedOn p l from m (Ok at) (Ok at)
    on_outside k = record { kept = λ _ e. e; told = λ _ _ z. absurd (omega arith) }

    pub on_scanned : (r : Result Walk ℕ) → Scanned p l from m r → ScannedOn p l from m (Ok at) r
    on_scanned r s = record { kept = λ _ e. err_ok (sym e); told = λ _ _ _. s }

-- THE FIRST k PROFILES, whose points end before number `from`: none has a bad point and the walk stands
-- there, or the first bad point is told
abbrev pub Told : (p : Plan) (l : PlanLayout) (k from : ℕ) → Result Walk ℕ → Type 0
Told p l k from scan =
    MatchResult scan
    (λ at. (any k (bad_profile l.period p) ≡ false) × (at ≡ point_at l.pointblock from))
    (λ bad. (any k (bad_profile l.period p) ≡ true)
    × (bad ≡ first_bad_point l.period p (first k (bad_profile l.period p))))

module _ (period : ℕ) (p : Plan) where
  abbrev q : ℕ → Bool
  q = bad_profile period p

  -- a bad point stands before the points of the later profiles
  bad_before : (a k : ℕ) → a < k → q a ≡ true → first_bad_point period p a < point_start p k
  unfolding first_bad_point bad_profile point_start
  bad_before a k l h =
      omega (
        arith,
        total_part (point_count p) a k l,
        ltb-true (first (point_count p a) (bad_tick period (point_ticks p a))) (point_count p a) h,
      )

  -- of k profiles one has a bad point
  bad_some : (k : ℕ) → any k q ≡ true → first_bad_point period p (first k q) < point_start p k
  bad_some k h =
      let l : first k q < k = ltb-true _ _ h in
      bad_before (first k q) k l (found q k l)

  -- and of one profile more
  bad_kept : (k : ℕ) → any k q ≡ true → (any (suc k) q ≡ true) × (first (suc k) q ≡ first k q)
  bad_kept k h =
      let e : first (suc k) q ≡ first k q = first_more k q ∙ rw h in
      (rw e (lt-ltb (first k q) (suc k) (omega (arith, first_le q k))), e)

  bad_new : (k : ℕ) → any k q ≡ false → q k ≡ true → (any (suc k) q ≡ true) × (first (suc k) q ≡ k)
  bad_new k h z =
      let e : first (suc k) q ≡ k = first_more k q ∙ rw (h, z) in
      (rw e (lt-ltb k (suc k) (omega arith)), e)

  bad_none : (k : ℕ) → any k q ≡ false → q k ≡ false → any (suc k) q ≡ false
  bad_none k h z =
      let e : first (suc k) q ≡ suc k = first_more k q ∙ rw (h, z) in
      rw e (le-ltb (suc k) (suc k) (omega arith))

-- THE LOOP before profile k, whose points start at `from`
pub record Passing (p : Plan) (l : PlanLayout) (k from : ℕ) (counts : Walk) (scan : Result Walk ℕ)
    : Type 0 where
  pub points_are : l.points ≡ point_total p
  pub within : k ≤ l.profiles
  pub fine : first k (bad_count l.period p) ≡ k
  pub small : from ≤ 65535 * k
  pub from_is : from ≡ point_start p k
  pub counts_at : counts ≡ count_at l.countblock k
  pub told : from ≤ l.points → Told p l k from scan

module _ (p : Plan) (l : PlanLayout) where
  pub pass_start : (counts at : Walk) → l.points ≡ point_total p → counts ≡ count_at l.countblock 0
      → at ≡ point_at l.pointblock 0 → Passing p l 0 0 counts (Ok at)
  unfolding point_start
  pass_start counts at e f g = record {
    points_are = e;
    within = omega arith;
    fine = none_yet _;
    small = omega arith;
    from_is = total_none (point_count p);
    counts_at = f;
    told = λ _. (rw (none_yet (bad_profile l.period p)), g);
  }

  pub pass_stands : (k from : ℕ) (counts : Walk) (scan : Result Walk ℕ) → Passing p l k from counts scan
      → Standing l from scan
  pass_stands k from counts scan s at e room = (rw e at (s.told room)).1

  module _ (k from m : ℕ) (counts : Walk) (scan : Result Walk ℕ) (s : Passing p l k from counts scan)
      (h : k < l.profiles) (e : m ≡ point_count p k) where
    pub count_taken : (r : Result ⊤ Refusal) → l.period < m → r ≡ refused 18 k
        → r ≡ judged_counts l.period l.profiles p
    unfolding judged_counts
    count_taken r b f =
        at_first r _ (refused 18) l.profiles k (bad_count l.period p)
        (stop _ l.profiles k s.fine h (rw (← e) (lt-ltb l.period m b))) h f

    module _ (next : Walk) (new : Result Walk ℕ) (b : m ≤ l.period) (o : m < 65536)
        (t : ScannedOn p l from m scan new) (f : next ≡ count_at l.countblock (k + 1)) where
      -- one profile more, where none before it has a bad point
      scanned : any k (bad_profile l.period p) ≡ false → (r : Result Walk ℕ) → Scanned p l from m r
          → Told p l (suc k) (from + m) r
      unfolding bad_profile first_bad_point
      scanned none (Ok at) (fine, stands) =
          (bad_none l.period p k none (rw (← e, ← s.from_is) fine), stands)
      scanned none (Err bad) (some, is) =
          let (any_is, first_is) = bad_new l.period p k none (rw (← e, ← s.from_is) some) in
          (any_is, rw (first_is, ← e, ← s.from_is) is)

      more : from + m ≤ l.points → Told p l (suc k) (from + m) new
      more room = go scan refl
        where
          go : (r : Result Walk ℕ) → scan ≡ r → Told p l (suc k) (from + m) new
          go (Ok at) q = scanned (rw q at (s.told (omega arith))).0 new (t.told at q room)
          go (Err bad) q =
              let (some, is) = rw q at (s.told (omega arith)) in
              let (any_is, first_is) = bad_kept l.period p k some in
              rw (t.kept bad q) (any_is, rw first_is is)

      pub pass_more : Passing p l (k + 1) (from + m) next new
      unfolding point_start
      pass_more = record {
        points_are = s.points_are;
        within = omega arith;
        fine = pass _ k s.fine (rw (← e) (le-ltb l.period m b));
        small = omega (arith, s.small);
        from_is = total_more (point_count p) from m k s.from_is e;
        counts_at = f;
        told = λ room. rw add-one (more room);
      }

  -- ITS ANSWER, once no profile is left
  module _ (k from : ℕ) (counts : Walk) (scan : Result Walk ℕ) (s : Passing p l k from counts scan)
      (h : l.profiles ≤ k) where
    last : k ≡ l.profiles
    last = omega (arith, s.within)

    total : from ≡ point_start p l.profiles
    total = rw last at s.from_is

    ended : from ≡ l.points → Told p l l.profiles from scan
    ended e = rw last at (s.told (omega arith))

    pub tick_within : from ≡ l.points → (bad : ℕ) → scan ≡ Err bad → bad < l.points
    tick_within e bad q =
        let (some, is) = rw q at (ended e) in
        omega (arith, is, bad_some l.period p l.profiles some, total)

    module _ (r : Result ⊤ Refusal) where
      counted : r ≡ judged_sum l.period l.profiles p → r ≡ judged_counts l.period l.profiles p
      unfolding judged_counts
      counted f =
          past_first r _ (refused 18) l.profiles k (bad_count l.period p)
          (done _ l.profiles k s.fine s.within h) h f

      pub sum_taken : (from ≡ l.points → ⊥) → r ≡ refused 18 l.profiles
          → r ≡ judged_counts l.period l.profiles p
      unfolding judged_sum
      sum_taken d f =
          counted
          (rw (ne_eqb (point_start p l.profiles) (point_total p) (λ z. d (total ∙ z ∙ sym s.points_are))) f)

      module _ (e : from ≡ l.points) where
        summed : r ≡ judged_ticks l.period l.profiles p → r ≡ judged_counts l.period l.profiles p
        unfolding judged_sum
        summed f =
            counted (rw (eq-eqb (point_start p l.profiles) (point_total p) (sym total ∙ e ∙ s.points_are)) f)

        pub tick_taken : (bad : ℕ) → scan ≡ Err bad → r ≡ refused 19 bad
            → r ≡ judged_counts l.period l.profiles p
        unfolding judged_ticks first_rung
        tick_taken bad q f =
            let (some, is) = rw q at (ended e) in
            summed (rw some (f ∙ ap (refused 19) is))

        pub ticks_passed : (at : Walk) → scan ≡ Ok at → r ≡ Ok tt → r ≡ judged_counts l.period l.profiles p
        unfolding judged_ticks first_rung
        ticks_passed at q f = summed (rw (rw q at (ended e)).0 f)
