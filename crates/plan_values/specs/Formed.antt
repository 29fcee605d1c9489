-- What every reader of profiles rests on: a plan file whose profiles are formed as 17 to 19 ask. From it: the
-- points of a profile stand among the points.
use mathlib.Core.{Path.◌≡◌, List.List}
use Rattle.std.specs.Prelude.{ℕ, ◌+◌, ◌*◌, ◌≤◌, ◌<◌}
use Rattle.std.proofs.Common.{arith}
use Rattle.std.proofs.Math.Arith.{digits_lt}
use Rattle.theory_loops.specs.Total.{total_part}
use Rattle.theory_travel.specs.Day.{Day}
use Rattle.plan.specs.declared.header.PlanLayout.{PlanLayout}
use Rattle.plan.specs.Plan.{point_count, point_start, point_ticks}
use Rattle.plan.specs.PlanDecode.{decode_plan, PlanLaid, PlanSmall, plan_small}

-- A plan file, laid out as its header says: the profiles' counts add up to the points, and the ticks of each
-- profile with points are a day's.
pub record Formed (plan : List ℕ) (l : PlanLayout) : Type 0 where
  pub laid : PlanLaid plan l
  pub small : PlanSmall l
  pub sum : point_start (decode_plan plan) l.profiles ≡ l.points
  pub day : (k : ℕ) → k < l.profiles → 0 < point_count (decode_plan plan) k
      → Day (point_ticks (decode_plan plan) k) (point_count (decode_plan plan) k) l.period

pub formed_of : {plan : List ℕ} {l : PlanLayout} → PlanLaid plan l
    → point_start (decode_plan plan) l.profiles ≡ l.points
    →
    ((k : ℕ) → k < l.profiles → 0 < point_count (decode_plan plan) k
    → Day (point_ticks (decode_plan plan) k) (point_count (decode_plan plan) k) l.period)
    → Formed plan l
formed_of d s h = record { laid = d; small = plan_small d; sum = s; day = h }

-- the points of profile k stand among the points
pub profile_points_lem : {plan : List ℕ} {l : PlanLayout} → Formed plan l → (k : ℕ) → k < l.profiles
    → point_start (decode_plan plan) k + point_count (decode_plan plan) k ≤ l.points
unfolding point_start
profile_points_lem {plan} {l} f k h =
    omega (arith, total_part (point_count (decode_plan plan)) k l.profiles h, f.sum)

-- the profile of border number i and node u is one of the profiles
pub profile_in : {plan : List ℕ} {l : PlanLayout} → Formed plan l → (i u : ℕ) → i < l.borders → u < l.nodes
    → i * l.nodes + u < l.profiles
profile_in f i u h m = omega (arith, digits_lt h m, f.small.profiles_are)
