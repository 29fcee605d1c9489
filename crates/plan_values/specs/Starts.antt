-- Where the profiles of one border start among the points: a table that is filled once for each border, from
-- where the border before it ended.
use mathlib.Core.{Path.◌≡◌, Path.◌∙◌, List.List}
use Rattle.std.specs.Prelude.{ℕ, ◌+◌, ◌*◌, ◌≤◌, ◌<◌, get_or}
use native.Mathlib.{Nat.add-zero, Omega.arith}
use mir.{Val.Fits, Syntax.w32, Syntax.w64}
use Rattle.theory_loops.specs.{Fill.Filled, Total.total_more}
use Rattle.plan.specs.declared.header.PlanLayout.{PlanLayout}
use Rattle.plan.specs.{PlanLimits.most_profile_points, Plan.Plan, Plan.point_count, Plan.point_start}
use Rattle.plan.specs.PlanDecode.{decode_plan}
use Rattle.plan_values.specs.Formed.{Formed, profile_points_lem, profile_in}

-- the first point of the profile of border number i and node u
unfoldable pub start_of : Plan → ℕ → ℕ → ℕ → ℕ
start_of p nodes i u = point_start p (i * nodes + u)

-- The table holds the starts of border number i.
pub record Started (plan : List ℕ) (l : PlanLayout) (i : ℕ) (starts : List ℕ) : Type 0 where
  pub at : (u : ℕ) → u < l.nodes → get_or starts u 0 ≡ start_of (decode_plan plan) l.nodes i u

pub started_of : {plan : List ℕ} {l : PlanLayout} {i : ℕ} {old starts : List ℕ}
    → Filled 0 l.nodes (start_of (decode_plan plan) l.nodes i) old starts
    → Started plan l i starts
started_of f = record { at = λ u h. f.written u (omega arith) h }

-- FOR THE LOOP over the nodes
module _ (p : Plan) (nodes i : ℕ) where
  pub start_first : {s : ℕ} → s ≡ point_start p (i * nodes) → s ≡ start_of p nodes i 0
  unfolding start_of
  start_first e = rw add-zero e

  pub start_more : {s m : ℕ} (u : ℕ) → s ≡ start_of p nodes i u → m ≡ point_count p (i * nodes + u)
      → s + m ≡ start_of p nodes i (u + 1)
  unfolding start_of point_start
  start_more {s} {m} u e f =
      let z : i * nodes + u + 1 ≡ i * nodes + (u + 1) = omega arith in
      rw z at (total_more (point_count p) s m (i * nodes + u) e f)

  pub start_last : {s : ℕ} (u : ℕ) → s ≡ start_of p nodes i u → u ≤ nodes → nodes ≤ u
      → s ≡ point_start p ((i + 1) * nodes)
  unfolding start_of
  start_last {s} u e h m =
      let z : i * nodes + u ≡ (i + 1) * nodes = omega arith in
      rw z at e

module _ {plan : List ℕ} {l : PlanLayout} (f : Formed plan l) {i u : ℕ} (h : i < l.borders)
    (m : u < l.nodes) where
  pub start_small : {s : ℕ} → s ≡ start_of (decode_plan plan) l.nodes i u → s ≤ most_profile_points
  unfolding start_of
  start_small e =
      omega (arith, profile_points_lem f (i * l.nodes + u) (profile_in f i u h m), f.small.points_most)

  pub start_fits : {s : ℕ} → s ≡ start_of (decode_plan plan) l.nodes i u → Fits w32 s
  start_fits e = omega (arith, start_small e)

  pub next_fits : {s c : ℕ} → s ≡ start_of (decode_plan plan) l.nodes i u → c < 65536 → Fits w64 (s + c)
  next_fits e g = omega (arith, start_small e)

  -- the number of the profile can be worked out
  pub product_fits : Fits w64 (i * l.nodes)
  product_fits = omega (arith, profile_in f i u h m, f.small.profiles_most)

  pub number_fits : Fits w64 (i * l.nodes + u)
  number_fits = omega (arith, profile_in f i u h m, f.small.profiles_most)

  -- the start that was read in the table, for the profile with its number
  pub start_read : {starts : List ℕ} {s : ℕ} → Started plan l i starts → s ≡ get_or starts u 0
      → s ≡ point_start (decode_plan plan) (i * l.nodes + u)
  unfolding start_of
  start_read t e = e ∙ t.at u m

-- for `search starting` at the needs of such code
pub ruleset starting = (
  started_of,
  start_first,
  start_more,
  start_last,
  start_fits,
  next_fits,
  product_fits,
  number_fits,
  start_read,
  profile_in,
)
