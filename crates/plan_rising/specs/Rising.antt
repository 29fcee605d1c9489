-- Whether a plan keeps the rules 18 and 19, yes or no: where each profile's count is no more than the ticks,
-- its points begin at tick 0 and end below the period, the counts add up, and the ticks fail to rise at no
-- more points than there are profiles with points, no rule is broken.
use mathlib.Core.{Path.◌≡◌, Path.refl, Path.sym, Path.◌∙◌, Bool.Bool, Bool.true, Bool.false, List.List}
use Rattle.file_refusals.specs.Refusal.{refused}
use Rattle.std.specs.Prelude.{ℕ, zero, suc, ◌+◌, ◌-◌, ◌*◌, ◌<◌, ◌≤◌, min, ◌==◌, nat_lt, Ok}
use native.Mathlib.{Nat.le_of_lt, Nat.lt_of_lt_of_le, Nat.add-zero, Numerals.add-one, Omega.arith}
use borrow.Author.{Count.below_more, Tests.ltb-true, Tests.le-ltb, Tests.eq-eqb, Tests.eqb-true}
use Rattle.theory_loops.specs.Count as Count
use Rattle.theory_loops.specs.{First.first, First.all_clear, Pick.past_first}
use Rattle.theory_loops.specs.Total.{total, total_none, total_more}
use Rattle.theory_breaks.specs.{Tally.flag, Tally.before, Tally.tally_more, Breaks.Begun, Breaks.only_first}
use Rattle.theory_travel.specs.{Day.Day, Points.climbs, Table.entry_at, Table.entry_first}
use Rattle.theory_travel.specs.Ticks.{bad_tick, ticks_day}
use Rattle.file_blocks.specs.Kind.{profile_point_kind, profile_point_per, profile_point_size}
use Rattle.file_blocks.specs.Place.{blocks}
use Rattle.file_forms.specs.SoundBlock.{RunSound}
use Rattle.file_blocks.specs.declared.walk.Walk.{Walk}
use Rattle.plan.specs.declared.header.PlanLayout.{PlanLayout}
use Rattle.plan.specs.{Plan.Plan, Plan.point_count, Plan.point_start, Plan.point_ticks, PlanWalk.count_at}
use Rattle.plan.specs.PlanDecode.{decode_plan, PlanLaid, point_tick, point_total, plan_sizes, plan_small}
use Rattle.plan.specs.PlanRules.{bad_count, bad_profile, first_bad_point, judged_ticks, judged_sum, judged_counts}
use Rattle.plan_rising.specs.declared.progress.Progress.{Progress}
use Rattle.plan_rising.specs.{Falls.half, Falls.falls, Falls.rises, Falls.zero_falls, Breaks.broken}
use Rattle.plan_rising.specs.Progress.{Walked, WalkedTo}

-- m points from number `from` on, with these ticks: no more than the period has ticks, in the file, the first
-- at tick 0 and the last below the period
pub record Kept (l : PlanLayout) (t : ℕ → ℕ) (from m : ℕ) : Type 0 where
  pub few : m ≤ l.period
  pub room : from + m ≤ l.points
  pub start : 0 < m → t 0 ≡ 0
  pub below : 0 < m → t (m - 1) < l.period

-- profile k has points
abbrev pub held : Plan → ℕ → Bool
held p k = nat_lt 0 (point_count p k)

-- all profiles are so, h of them have points, and the counts add up
pub record AllKept (p : Plan) (l : PlanLayout) (h : ℕ) : Type 0 where
  pub profile : (k : ℕ) → k < l.profiles → Kept l (point_ticks p k) (point_start p k) (point_count p k)
  pub sum : point_start p l.profiles ≡ l.points
  pub some : h ≡ Count.count l.profiles (held p)

-- ALL PROFILES
module _ (p : Plan) (l : PlanLayout) (h : ℕ) (points_are : l.points ≡ point_total p)
    (short : l.period ≤ half) (a : AllKept p l h)
    (few : Count.count (point_total p) (broken (point_tick p)) ≡ h) where
  next : (k : ℕ) → point_start p (suc k) ≡ point_start p k + point_count p k
  unfolding point_start
  next k =
      rw (← add-one k)
      (sym (total_more (point_count p) (total k (point_count p)) (point_count p k) k refl refl))

  -- the tick before the points of a profile is the last of an earlier one, or 0
  behind : (k : ℕ) → k ≤ l.profiles → before (point_tick p) (point_start p k) < half
  unfolding point_start total before entry_at
  behind zero o = omega arith
  behind (suc k) o = go (point_count p k) refl (behind k (omega arith))
    where
      go : (m : ℕ) → point_count p k ≡ m → before (point_tick p) (point_start p k) < half
          → before (point_tick p) (point_start p (suc k)) < half
      go zero e h =
          let z : point_start p (suc k) ≡ point_start p k = omega (arith, next k) in
          rw z h
      go (suc m) e h =
          let z : point_start p (suc k) ≡ suc (point_start p k + m) = omega (arith, next k) in
          let q : point_count p k - 1 ≡ m = omega arith in
          let b : point_tick p (point_start p k + m) < l.period =
          rw q at ((a.profile k (omega arith)).below (omega arith)) in
          rw z (lt_of_lt_of_le b short)

  -- the first point of each profile that has points is a break
  begun : Begun (broken (point_tick p)) (held p) (point_start p) l.profiles
  unfolding broken
  begun = record {
    grows = λ k o. omega (arith, next k);
    some = λ k o e. omega (arith, next k, ltb-true 0 (point_count p k) e);
    first = λ k o e.
        let z : point_tick p (point_start p k) ≡ 0 =
        entry_first p.ticks (point_start p k) ∙ (a.profile k o).start (ltb-true 0 (point_count p k) e) in
        rw z (zero_falls (before (point_tick p) (point_start p k)) (behind k (omega arith)));
  }

  module _ (k : ℕ) (o : k < l.profiles) where
    -- and no other
    steady : (i : ℕ) → suc i < point_count p k → falls (point_ticks p k (suc i)) (point_ticks p k i) ≡ false
    unfolding entry_at broken before
    steady i b =
        let z : point_start p k + suc i ≡ suc (point_start p k + i) = omega arith in
        let w : Count.count (point_start p l.profiles) (broken (point_tick p))
        ≤ Count.count l.profiles (held p) =
        rw (a.sum, points_are, few, a.some) (omega arith) in
        rw z
        (only_first _ _ (point_start p) l.profiles begun w k (suc (point_start p k + i)) o (omega arith)
        (omega (arith, next k)))

    -- so its ticks stay below 2^15, from 0 on, and rise
    low : (i : ℕ) → i < point_count p k → point_ticks p k i < half
    low zero b = omega (arith, (a.profile k o).start b)
    low (suc i) b = (rises _ _ (low i (omega arith)) (steady i b)).1

    inside : (i : ℕ) → suc i < point_count p k → point_ticks p k i < point_ticks p k (suc i)
    inside i b = (rises _ _ (low i (omega arith)) (steady i b)).0

    below : (i : ℕ) → i < point_count p k → point_ticks p k i < l.period
    below i b =
        let m = point_count p k in
        omega (
          arith,
          climbs (point_ticks p k) (m - 1) (λ q u. le_of_lt (inside q (omega arith))) i (m - 1) (omega arith)
              (omega arith),
          (a.profile k o).below (omega arith),
        )

    fine : (i : ℕ) → i < point_count p k → bad_tick l.period (point_ticks p k) i ≡ false
    fine i b =
        let z : 0 < point_count p k = omega arith in
        let day : Day (point_ticks p k) (point_count p k) l.period =
        record { some = z; start = (a.profile k o).start z; rise = inside; below = below } in
        (ticks_day l.period (point_ticks p k) (point_count p k) z).1 day i b

    profile_fine : bad_profile l.period p k ≡ false
    unfolding bad_profile
    profile_fine =
        let e = all_clear (bad_tick l.period (point_ticks p k)) (point_count p k) fine in
        le-ltb (first (point_count p k) (bad_tick l.period (point_ticks p k))) (point_count p k) (omega arith)

    count_fine : bad_count l.period p k ≡ false
    count_fine = le-ltb l.period (point_count p k) (a.profile k o).few

  -- THE LAW
  rising_sound : (Ok tt) ≡ judged_counts l.period l.profiles p
  unfolding judged_counts judged_sum judged_ticks
  rising_sound =
      let n = l.profiles in
      let e = all_clear (bad_count l.period p) n count_fine in
      let f = all_clear (bad_profile l.period p) n profile_fine in
      let g : (Ok tt) ≡ judged_ticks l.period n p =
      past_first (Ok tt) _ (λ k. refused 19 (first_bad_point l.period p k)) n n (bad_profile l.period p)
      (sym f) (omega arith) refl in
      past_first (Ok tt) _ (refused 18) n n (bad_count l.period p) (sym e) (omega arith)
      (rw (eq-eqb (point_start p n) (point_total p) (a.sum ∙ points_are)) g)

-- FOR CODE that looks at one profile
module _ (p : Plan) (l : PlanLayout) (from m : ℕ) where
  pub kept_no : false ≡ true → Kept l (entry_at p.ticks from) from m
  kept_no e = let z : ◌≡◌ {A = ℕ} 0 1 = cc in absurd (omega arith)

  pub kept_some : (x y : ℕ) → m ≤ l.period → from + m ≤ l.points → x ≡ point_tick p from
      → y ≡ point_tick p (from + (m - 1)) → x ≤ 0 → nat_lt y l.period ≡ true
      → Kept l (entry_at p.ticks from) from m
  unfolding entry_at
  kept_some x y f r e g h b = record {
    few = f;
    room = r;
    start = λ o. rw add-zero (omega (arith, e));
    below = λ o. omega (arith, g, ltb-true y l.period b);
  }

-- for `search keeps` where the code answers
pub ruleset keeps = (kept_no, kept_some)

-- THE LOOP over the profiles, before profile k, whose points start at `from`; `some` before it have points
pub record Holding (file : List ℕ) (l : PlanLayout) (k from some : ℕ) (counts : Walk) (progress : Progress)
    : Type 0 where
  pub within : k ≤ l.profiles
  pub from_is : from ≡ point_start (decode_plan file) k
  pub counts_at : counts ≡ count_at l.countblock k
  pub some_is : some ≡ Count.count k (held (decode_plan file))
  pub kept : (i : ℕ) → i < k
      → Kept l (point_ticks (decode_plan file) i) (point_start (decode_plan file) i)
      (point_count (decode_plan file) i)
  pub walked : WalkedTo file l from progress

-- what it finds: every block of points has a right check and its form, and the rules 18 and 19 are kept
pub record Risen (file : List ℕ) (l : PlanLayout) : Type 0 where
  pub blocks_sound : RunSound file l.pointblock profile_point_kind profile_point_per profile_point_size
      l.points
  pub rules_kept : (Ok tt) ≡ judged_counts l.period l.profiles (decode_plan file)

module _ {file : List ℕ} {l : PlanLayout} (s : PlanLaid file l) where
  abbrev plan : Plan
  plan = decode_plan file

  pub risen_no : false ≡ true → Risen file l
  risen_no e = let z : ◌≡◌ {A = ℕ} 0 1 = cc in absurd (omega arith)

  pub holding_none : (counts : Walk) (progress : Progress) → counts ≡ count_at l.countblock 0
      → WalkedTo file l 0 progress → Holding file l 0 0 0 counts progress
  unfolding point_start
  holding_none counts progress e w = record {
    within = omega arith;
    from_is = total_none (point_count plan);
    counts_at = e;
    some_is = Count.count_none (held plan);
    kept = λ i o. absurd (omega arith);
    walked = w;
  }

  module _ (k from some : ℕ) (counts : Walk) (progress : Progress)
      (i : Holding file l k from some counts progress) where
    pub holding_more : (m u r : ℕ) (new : Walk) (next : Progress) → k < l.profiles → m ≡ point_count plan k
        → Kept l (entry_at plan.ticks from) from m → u ≡ blocks profile_point_per (from + m)
        → Walked file l next → next.done ≡ u → r ≡ flag (nat_lt 0 m) → new ≡ count_at l.countblock (k + 1)
        → Holding file l (k + 1) (from + m) (some + r) new next
    unfolding point_start
    holding_more m u r new next h e d b w t q c =
        let here : Kept l (point_ticks plan k) (point_start plan k) (point_count plan k) =
        rw (i.from_is, e) at d in
        record {
          within = omega arith;
          from_is = total_more (point_count plan) from m k i.from_is e;
          counts_at = c;
          some_is = tally_more (held plan) some k r i.some_is (rw e at q);
          kept = λ j o. below_more
              (λ i. Kept l (point_ticks plan i) (point_start plan i) (point_count plan i)) k i.kept here j
              (omega arith);
          walked = record { room = d.room; done_is = t ∙ b; walked = w };
        }

    -- no more have points than there are
    pub holding_few : (r : ℕ) → r < 2 → some + r ≤ k + 1
    holding_few r e = omega (arith, i.some_is, Count.count_few (held plan) k)

    pub holding_end : l.profiles ≤ k → from ≡ l.points → (progress.breaks == some) ≡ true → Risen file l
    holding_end h e f =
        let z : k ≡ l.profiles = omega (arith, i.within) in
        let n = (plan_sizes s).points in
        let d : progress.done ≡ blocks profile_point_per l.points = rw e at i.walked.done_is in
        let a : AllKept plan l some = record {
          profile = λ j o. i.kept j (omega arith);
          sum = sym (rw z at i.from_is) ∙ e;
          some = rw z at i.some_is;
        } in
        let m : min l.points (profile_point_per * progress.done) ≡ point_total plan = omega arith in
        let c : progress.breaks ≡ Count.count (point_total plan) (broken (point_tick plan)) =
        rw m at i.walked.walked.counted in
        record {
          blocks_sound = λ j o. i.walked.walked.sound j (omega arith);
          rules_kept = rising_sound plan l some n (omega (arith, (plan_small s).period_most)) a
              (sym c ∙ eqb-true progress.breaks some f);
        }
