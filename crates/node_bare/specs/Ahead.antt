-- Does an arc out of a node lead to one that has points? Told by a walk along the chain of its arcs.
use mathlib.Core.{Path.◌≡◌, Path.sym, Logic.◌≢◌, Bool.Bool, Bool.true, Bool.false, Bool.◌&&◌, List.List}
use Rattle.std.specs.Prelude.{ℕ, ◌+◌, ◌*◌, ◌≤◌, ◌<◌, eqb, ltb}
use Rattle.std.proofs.Common.{arith, eq-eqb, ne_eqb, lt-ltb, le-ltb}
use Rattle.theory_loops.specs.First.{any, any_clear, some}
use Rattle.theory_paths.specs.Partition.{Partition}
use Rattle.network.specs.declared.header.Layout.{Layout}
use Rattle.network.specs.{Network.nodes, Network.arcs, Network.tail, Network.head, Decode.decode}
use Rattle.network.specs.Town.{partition_of}
use Rattle.search_chains.specs.{Chain.Walking, Chain.walk_none, Town.Town}
use Rattle.plan.specs.{Plan.Plan, Plan.point_count, PlanDecode.decode_plan}
use Rattle.plan_tests.specs.declared.tests.Layouts.{Layouts}
use Rattle.plan_tests.specs.Checkable.{Checkable}

-- arc a leads out of u, to a node that has points towards border number i
unfoldable pub ahead : Partition → Plan → ℕ → ℕ → ℕ → Bool
ahead G p i u a = eqb (G.graph.tail a) u && ltb 0 (point_count p (i * G.graph.nodes + G.graph.head a))

-- an arc out of another node does not
pub ahead_elsewhere : (G : Partition) (p : Plan) (i u a : ℕ) → G.graph.tail a ≢ u → ahead G p i u a ≡ false
unfolding ahead
ahead_elsewhere G p i u a e = rw (ne_eqb (G.graph.tail a) u e)

-- FOR A WALK of the arcs out of u, at arc a with head y, whose count of points was read
module _ {network plan : List ℕ} {l : Layouts} (w : Checkable network plan l) (i u a y k : ℕ)
    (e : tail (decode network) a ≡ u) (f : y ≡ head (decode network) a)
    (g : k ≡ point_count (decode_plan plan) (i * l.plan.nodes + y)) where
  there : k
      ≡ point_count (decode_plan plan) (i * nodes (decode network) + head (decode network) a)
  there = rw (w.nodes, w.town.sizes.nodes, f) at g

  pub ahead_at : k ≢ 0 → ahead (partition_of (decode network)) (decode_plan plan) i u a ≡ true
  unfolding ahead
  ahead_at h = rw (eq-eqb (tail (decode network) a) u e, ← there) (lt-ltb 0 k (omega (arith, h)))

  pub ahead_not : k ≡ 0 → ahead (partition_of (decode network)) (decode_plan plan) i u a ≡ false
  unfolding ahead
  ahead_not h = rw (eq-eqb (tail (decode network) a) u e, ← there) (le-ltb 0 k (omega arith))

  pub ahead_found : a < l.network.arcs → k ≢ 0
      → true ≡ any (arcs (decode network))
      (ahead (partition_of (decode network)) (decode_plan plan) i u)
  ahead_found o h =
      some (ahead (partition_of (decode network)) (decode_plan plan) i u) (arcs (decode network)) a
      (omega (arith, w.town.sizes.arcs)) (ahead_at h)

-- no arc is left
pub ahead_none : {network : List ℕ} {l : Layout} (p : Plan) {first next : List ℕ} (i u k : ℕ) → Town network l
    → Walking (tail (decode network)) l.nodes l.arcs first next
    (ahead (partition_of (decode network)) p i u) u k
    → l.arcs ≤ k
    → false ≡ any (arcs (decode network)) (ahead (partition_of (decode network)) p i u)
ahead_none {network} {l} p {first} {next} i u k t w h =
    sym
    ((any_clear (ahead (partition_of (decode network)) p i u) (arcs (decode network))).1
    (λ a m. (walk_none w h).before a (omega (arith, t.sizes.arcs))))
