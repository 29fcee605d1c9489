-- The numbers of a profile with points over the day, by the points that its readers found in the file.
use mathlib.Core.{Path.◌≡◌, Path.sym, Path.◌∙◌, List.List}
use Rattle.std.specs.Prelude.{ℕ, ◌+◌, ◌≤◌, ◌<◌}
use Rattle.std.proofs.Common.{arith, eq-eqb, ne_eqb}
use Rattle.theory_paths.specs.Profiles.{unreachable, ticks}
use Rattle.theory_travel.specs.{Day.Day, Day.day_value, Table.entry_at, Table.value_at}
use Rattle.plan.specs.declared.header.PlanLayout.{PlanLayout}
use Rattle.plan.specs.Plan.{Plan, point_count, point_start, point_ticks, point_travels, profile_value}
use Rattle.plan.specs.PlanDecode.{decode_plan}
use Rattle.plan_values.specs.Formed.{Formed, profile_points_lem}
use Rattle.day_slopes.specs.Runs.{Runs}
use Rattle.day_runs.specs.Bounds.{Least, Most, Floor, Ceiling, least_day, most_day}

-- the number of profile k at a tick below the period, by its points
unfoldable pub number_at : ℕ → Plan → ℕ → ℕ → ℕ
number_at period p k x = day_value (point_ticks p k) (point_travels p k) (point_count p k) period x

-- which is the profile's value there, where it has points
pub number_value : (period : ℕ) (p : Plan) (k x : ℕ) → 0 < point_count p k
    → profile_value period p k x ≡ ticks (number_at period p k x)
unfolding profile_value number_at
number_value period p k x h = rw (ne_eqb (point_count p k) 0 (λ e. omega arith))

-- and never where it has none
pub number_never : (period : ℕ) (p : Plan) (k x : ℕ) → point_count p k ≡ 0
    → profile_value period p k x ≡ unreachable
unfolding profile_value
number_never period p k x h = rw (eq-eqb (point_count p k) 0 h)

-- FOR CODE that has read where the points of a profile start, and how many it has
module _ {plan : List ℕ} {l : PlanLayout} (f : Formed plan l) {k : ℕ} (h : k < l.profiles) {from m : ℕ}
    (e : from ≡ point_start (decode_plan plan) k) (q : m ≡ point_count (decode_plan plan) k)
    (some : 0 < point_count (decode_plan plan) k) where
  -- they are a day's points, and stand among the points
  pub points_day : Day (entry_at (decode_plan plan).ticks from) m l.period
  points_day = rw (e, q) (f.day k h some)

  pub points_in : from + m ≤ l.points
  points_in = omega (arith, profile_points_lem f k h)

  is_number : (x : ℕ)
      → value_at (decode_plan plan).ticks (decode_plan plan).travels from m l.period x
      ≡ number_at l.period (decode_plan plan) k x
  unfolding number_at
  is_number x = rw (e, q)

  pub runs_number : {s v : List ℕ} {n : ℕ}
      → Runs s v n l.period
      (value_at (decode_plan plan).ticks (decode_plan plan).travels from m l.period)
      → Runs s v n l.period (number_at l.period (decode_plan plan) k)
  runs_number r = record { grid = r.grid; held = λ i x o lo hi. sym (is_number x) ∙ r.held i x o lo hi }

  pub floor_number : {r : ℕ} → Least (entry_at (decode_plan plan).travels from) m r
      → Floor (number_at l.period (decode_plan plan) k) l.period r
  floor_number {r} p = record { least = λ x o. omega (arith, least_day points_day r x o p, is_number x) }

  pub ceiling_number : {r : ℕ} → Most (entry_at (decode_plan plan).travels from) m r
      → Ceiling (number_at l.period (decode_plan plan) k) l.period r
  ceiling_number {r} p = record { most = λ x o. omega (arith, most_day points_day r x o p, is_number x) }
