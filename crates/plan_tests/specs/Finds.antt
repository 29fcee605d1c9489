-- How many finds the check may make. A FIND is one piece of a day, from a point to the next, looked up and
-- divided by its width; the day of a road or of a profile has as many as it has points. `allowed` is document
-- 02's bound for a border and one test; the rest is what one pass for all tests comes to.
use mathlib.Core.{Path.◌≡◌, Path.◌∙◌, Path.ap, Bool.cond, List.List}
use Rattle.std.specs.Prelude.{ℕ, ◌+◌, ◌*◌, ◌≤◌, ◌<◌, eqb}
use native.Mathlib.Omega.{arith}
use Rattle.theory_loops.specs.Total.{total, total_same, total_most}
use Rattle.theory_loops.specs.Sums.{total_plus, total_swap, total_one}
use Rattle.network.specs.Network.{Network, nodes, arcs, tail, head, count, start}
use Rattle.network.specs.Decode.{decode}
use Rattle.plan.specs.{Plan.Plan, Plan.point_count, PlanDecode.decode_plan, PlanLimits.most_profile_points}
use Rattle.plan_values.specs.Formed.{profile_in, profile_points_lem}
use Rattle.plan_tests.specs.declared.tests.Layouts.{Layouts}
use Rattle.plan_tests.specs.Checkable.{Checkable}

-- the points of all roads, of all profiles of border number i, and for each road of its end's profile
unfoldable pub road_points : Network → ℕ
road_points n = total (arcs n) (count n)

unfoldable pub profile_points : Network → Plan → ℕ → ℕ
profile_points n p i = total (nodes n) (λ u. point_count p (i * nodes n + u))

unfoldable pub end_points : Network → Plan → ℕ → ℕ
end_points n p i = total (arcs n) (λ a. point_count p (i * nodes n + head n a))

-- THE BOUND for border number i and one of the tests 21 to 24
abbrev pub allowed : Network → Plan → ℕ → ℕ
allowed n p i = 2 * road_points n + 2 * profile_points n p i + end_points n p i

-- ONE PASS: where node u is judged, the points of arc a and of its head's profile count if the arc leads out
-- of u, and so do those of the node's own profile
unfoldable pub out_finds : Network → Plan → ℕ → ℕ → ℕ → ℕ
out_finds n p i u a = cond (eqb (tail n a) u) (count n a + point_count p (i * nodes n + head n a)) 0

unfoldable pub node_finds : Network → Plan → ℕ → ℕ → ℕ
node_finds n p i u = point_count p (i * nodes n + u) + total (arcs n) (out_finds n p i u)

-- a count of finds went up by so many
pub record Counted (least most before after : ℕ) : Type 0 where
  pub no_fewer : before + least ≤ after
  pub no_more : after ≤ before + most

-- a pass finds each of the points that the bound names once
pub pass_finds : (n : Network) (p : Plan) (i : ℕ) → ((a : ℕ) → a < arcs n → tail n a < nodes n)
    → total (nodes n) (node_finds n p i) ≡ road_points n + profile_points n p i + end_points n p i
unfolding node_finds out_finds road_points profile_points end_points
pass_finds n p i joined =
    total_plus (λ u. point_count p (i * nodes n + u)) (λ u. total (arcs n) (out_finds n p i u)) (nodes n)
    ∙ ap (λ (k : ℕ). total (nodes n) (λ u. point_count p (i * nodes n + u)) + k)
    (total_swap (out_finds n p i) (nodes n) (arcs n)
    ∙ total_same _ (λ a. count n a + point_count p (i * nodes n + head n a)) (arcs n)
    (λ a l. total_one (nodes n) (tail n a) (count n a + point_count p (i * nodes n + head n a)) (joined a l))
    ∙ total_plus (count n) (λ a. point_count p (i * nodes n + head n a)) (arcs n))
    ∙ omega arith

pub pass_allowed : (n : Network) (p : Plan) (i : ℕ) → ((a : ℕ) → a < arcs n → tail n a < nodes n)
    → total (nodes n) (node_finds n p i) ≤ allowed n p i
pass_allowed n p i joined = omega (arith, pass_finds n p i joined)

-- for files within the limits a number far below 64 bits
module _ {network plan : List ℕ} {l : Layouts} (w : Checkable network plan l) {i : ℕ} (h : i < l.plan.borders)
  where
    few : (u : ℕ) → u < nodes (decode network)
        → point_count (decode_plan plan) (i * nodes (decode network) + u) ≤ most_profile_points
    few u m =
        let e : l.plan.nodes ≡ nodes (decode network) = w.nodes ∙ w.town.sizes.nodes in
        let k = profile_in w.formed i u h (omega arith) in
        rw (← e) (omega (
          arith,
          profile_points_lem w.formed (i * l.plan.nodes + u) k,
          w.formed.small.points_most,
        ))

    pub allowed_most : allowed (decode network) (decode_plan plan) i ≤ 3221356542
    unfolding road_points profile_points end_points start
    allowed_most =
        let t = w.town in
        omega (
          arith,
          t.sound.sum,
          t.sizes.points,
          t.small.points_most,
          t.sizes.nodes,
          t.small.nodes_most,
          t.sizes.arcs,
          t.small.arcs_most,
          total_most (λ u. point_count (decode_plan plan) (i * nodes (decode network) + u)) most_profile_points
              (nodes (decode network)) few,
          total_most (λ a. point_count (decode_plan plan)
              (i * nodes (decode network) + head (decode network) a)) most_profile_points
              (arcs (decode network)) (λ a m. few _ (t.sound.arc a m).head_node),
        )
