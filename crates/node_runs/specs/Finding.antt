-- How many finds the code makes that judges a node: those of each arc that it meets and those of the node's
-- own profile, held against what one pass allows (crate `plan_tests`, specs/Finds.antt). An arc that is
-- passed and one that the chain skips only leave room.
use mathlib.Core.{Path.◌≡◌, List.List}
use Prim.Native.Nat.{ℕ, ◌+◌, ◌*◌, ◌≤◌, ◌<◌, min}
use native.Mathlib.Omega.{arith}
use Rattle.std.specs.Prelude.{get_or}
use Rattle.std.proofs.Common.{eq-eqb}
use Rattle.theory_loops.specs.Total.{total, total_part, total_up}
use Rattle.network.specs.declared.header.Layout.{Layout}
use Rattle.network.specs.Network.{Network, nodes, arcs, tail, head, count}
use Rattle.network.specs.Decode.{decode}
use Rattle.plan.specs.{Plan.Plan, Plan.point_count, PlanDecode.decode_plan}
use Rattle.plan_tests.specs.declared.tests.{Layouts.Layouts, Target.Target}
use Rattle.plan_tests.specs.{Finds.Counted, Finds.out_finds, Finds.node_finds, Giving.Prepared}
use Rattle.node_runs.specs.Judged.{Judging, judge_less}

-- the finds of an arc that is met: its points and those of its head's profile
unfoldable pub arc_finds : Network → Plan → ℕ → ℕ → ℕ
arc_finds n p i a = count n a + point_count p (i * nodes n + head n a)

-- those of the arcs out of u below k, where the walk stands
unfoldable pub found_before : Network → Plan → ℕ → ℕ → ℕ → ℕ
found_before n p i u k = total (min k (arcs n)) (out_finds n p i u)

-- nothing was found
pub counted_none : (most at : ℕ) → Counted 0 most at at
counted_none most at = record { no_fewer = omega arith; no_more = omega arith }

-- FOR THE WALK, which stands at arc k
module _ {network : List ℕ} {l : Layout} {p : Plan} {first next : List ℕ} {c i u period k : ℕ}
    {marks : List ℕ} (w : Judging network l p first next c i u period k marks) {before after : ℕ}
    (f : Counted 0 (found_before (decode network) p i u k) before after) where
  module _ (h : k < l.arcs) where
    -- what arc k finds comes after what was found before it
    met_here : (m : ℕ) → k < m → m ≤ arcs (decode network)
        → after + arc_finds (decode network) p i k ≤ before + total m (out_finds (decode network) p i u)
    unfolding found_before arc_finds out_finds
    met_here m o b =
        let z : min k (arcs (decode network)) ≡ k = omega arith in
        let e : out_finds (decode network) p i u k ≡ arc_finds (decode network) p i k =
        rw (eq-eqb (tail (decode network) k) u (w.here h)) in
        omega (arith, rw z at f.no_more, e, total_part (out_finds (decode network) p i u) k m o)

    pub walk_room : {top : ℕ} → before + total (arcs (decode network)) (out_finds (decode network) p i u) < top
        → after + arc_finds (decode network) p i k < top
    walk_room r =
        let b : k < arcs (decode network) = omega (arith, w.town.sizes.arcs) in
        omega (arith, met_here (arcs (decode network)) b (omega arith))

    pub walk_next : (j : ℕ) {later : ℕ} → j ≡ get_or next k 0
        → Counted 0 (arc_finds (decode network) p i k) after later
        → Counted 0 (found_before (decode network) p i u j) before later
    unfolding found_before
    walk_next j e g =
        let n = w.town.sizes.arcs in
        let b : k < min j (arcs (decode network)) = omega (arith, n, judge_less w h j e) in
        record {
          no_fewer = omega (arith, f.no_fewer, g.no_fewer);
          no_more = omega (arith, g.no_more, met_here (min j (arcs (decode network))) b (omega arith));
        }

  pub walk_end : Counted 0 (total (arcs (decode network)) (out_finds (decode network) p i u)) before after
  unfolding found_before
  walk_end =
      let n = arcs (decode network) in
      let up = total_up (out_finds (decode network) p i u) (min k n) n (omega arith) in
      record { no_fewer = f.no_fewer; no_more = omega (arith, f.no_more, up) }

-- FOR CODE that knows the counts of nodes by the layouts
module _ {network plan : List ℕ} {l : Layouts} {points starts : List ℕ} {b : Target}
    (w : Prepared network plan l points starts b) where
  pub arc_finds_lem : (a : ℕ) {y : ℕ} → y ≡ head (decode network) a
      → arc_finds (decode network) (decode_plan plan) b.number a
      ≡ count (decode network) a + point_count (decode_plan plan) (b.number * l.plan.nodes + y)
  unfolding arc_finds
  arc_finds_lem a e = rw (e, w.check.nodes, w.check.town.sizes.nodes)

  -- so there is room for the finds of its points, and then for those of its head's
  pub arc_fits : (a before : ℕ) {top : ℕ}
      → before + arc_finds (decode network) (decode_plan plan) b.number a < top
      → before + count (decode network) a < top
  unfolding arc_finds
  arc_fits a before h = omega arith

  pub head_fits : (a before between : ℕ) {y top : ℕ} → y ≡ head (decode network) a
      → between ≤ before + count (decode network) a
      → before + arc_finds (decode network) (decode_plan plan) b.number a < top
      → between + point_count (decode_plan plan) (b.number * l.plan.nodes + y) < top
  head_fits a before between e f h = omega (arith, arc_finds_lem a e)

  pub node_finds_lem : (u : ℕ)
      → node_finds (decode network) (decode_plan plan) b.number u
      ≡ point_count (decode_plan plan) (b.number * l.plan.nodes + u)
      + total (arcs (decode network)) (out_finds (decode network) (decode_plan plan) b.number u)
  unfolding node_finds
  node_finds_lem u = rw (w.check.nodes, w.check.town.sizes.nodes)

  -- so there is room for the finds of its own profile, and then for those of its arcs
  pub node_fits : (u before : ℕ) {top : ℕ}
      → before + node_finds (decode network) (decode_plan plan) b.number u < top
      → before + point_count (decode_plan plan) (b.number * l.plan.nodes + u) < top
  node_fits u before h = omega (arith, node_finds_lem u)

  pub arcs_fit : (u before after : ℕ) {top : ℕ}
      → after ≡ before + point_count (decode_plan plan) (b.number * l.plan.nodes + u)
      → before + node_finds (decode network) (decode_plan plan) b.number u < top
      → after + total (arcs (decode network)) (out_finds (decode network) (decode_plan plan) b.number u)
      < top
  arcs_fit u before after e h = omega (arith, node_finds_lem u)

  -- an arc was met: first at most its points were found, then its head's
  pub met_finds : (a : ℕ) {y before between after : ℕ} → y ≡ head (decode network) a
      → before ≤ between → between ≤ before + count (decode network) a
      → after ≡ between + point_count (decode_plan plan) (b.number * l.plan.nodes + y)
      → Counted 0 (arc_finds (decode network) (decode_plan plan) b.number a) before after
  met_finds a e o f g =
      record { no_fewer = omega (arith, o, g); no_more = omega (arith, f, g, arc_finds_lem a e) }

  -- a node was judged: first its own points were found, then those of its arcs
  pub judged_finds : (u : ℕ) {before between after : ℕ}
      → between ≡ before + point_count (decode_plan plan) (b.number * l.plan.nodes + u)
      → Counted 0 (total (arcs (decode network))
      (out_finds (decode network) (decode_plan plan) b.number u)) between after
      → Counted (point_count (decode_plan plan) (b.number * l.plan.nodes + u))
      (node_finds (decode network) (decode_plan plan) b.number u) before after
  judged_finds u f c = record {
    no_fewer = omega (arith, f, c.no_fewer);
    no_more = omega (arith, f, c.no_more, node_finds_lem u);
  }
