-- A node without points, whose profile is never: 22 fails there, at every tick alike, exactly where an arc
-- out of it leads to a node that has points, and no other test does.
use mathlib.Core.{Path.◌≡◌, Path.refl, Path.sym, Path.◌∙◌, Path.ap, Logic.◌≢◌, List.List}
use Rattle.std.specs.Prelude.{Bool, true, false, ◌&&◌, ℕ, ◌+◌, ◌*◌, ◌%◌, ◌<◌}
use native.Mathlib.Omega.{arith}
use Rattle.std.proofs.Math.Dec.{eqb, ltb}
use Rattle.std.proofs.Common.{ne_eqb, ltb-true, ltb-false}
use Rattle.theory_loops.specs.{Fill.Filled, First.any, First.first_same, First.yes_any}
use Rattle.theory_paths.specs.{Partition.Partition, Profiles.Travel, Profiles.unreachable, Profiles.plus}
use Rattle.plan.specs.{Border.border_at, Plan.Plan, Plan.profile, Plan.point_count}
use Rattle.plan_values.specs.Compare.{less}
use Rattle.plan_tests.specs.Tests.{giving, fails22, fails}
use Rattle.profile_runs.specs.Numbers.{number_value, number_never}
use Rattle.node_bare.specs.Ahead.{ahead}
use Rattle.node_verdict.specs.Lowest.{tells, Lowest, each_test}

-- a value that is never: anything that is a number is less
module _ (G : Partition) (p : Plan) (i u : ℕ) (none : point_count p (i * G.graph.nodes + u) ≡ 0) where
  never : (x : ℕ) → profile G.graph p i u x ≡ unreachable
  never x = number_never G.graph.period p (i * G.graph.nodes + u) x none

  less_never : (a x : ℕ)
      → less (giving G p i a x) unreachable ≡ ltb 0 (point_count p (i * G.graph.nodes + G.graph.head a))
  less_never a x = go (ltb 0 (point_count p (i * G.graph.nodes + G.graph.head a))) refl
    where
      head_at : ℕ → Travel
      head_at = profile G.graph p i (G.graph.head a)

      ended : ℕ
      ended = (x + G.graph.travel a x) % G.graph.period

      go : (b : Bool) → ltb 0 (point_count p (i * G.graph.nodes + G.graph.head a)) ≡ b
          → less (plus (G.graph.travel a x) (head_at ended)) unreachable ≡ b
      go true e =
          ap (λ t. less (plus (G.graph.travel a x) t) unreachable)
          (number_value G.graph.period p (i * G.graph.nodes + G.graph.head a) ended
          (ltb-true 0 (point_count p (i * G.graph.nodes + G.graph.head a)) e))
      go false e =
          ap (λ t. less (plus (G.graph.travel a x) t) unreachable)
          (number_never G.graph.period p (i * G.graph.nodes + G.graph.head a) ended
          (omega (arith, ltb-false 0 (point_count p (i * G.graph.nodes + G.graph.head a)) e)))

  is_22 : (x : ℕ) → fails 22 G p i u x ≡ any G.graph.arcs (ahead G p i u)
  unfolding fails fails22 ahead
  is_22 x =
      ap (λ (k : ℕ). ltb k G.graph.arcs)
      (first_same _ _ G.graph.arcs
      (λ a l. ap (λ b. eqb (G.graph.tail a) u && b)
      (ap (less (giving G p i a x)) (never x) ∙ less_never a x)))

  none_23 : (x : ℕ) → fails 23 G p i u x ≡ false
  unfolding fails
  none_23 x = rw (never x)

  none_24 : (x : ℕ) → fails 24 G p i u x ≡ false
  unfolding fails
  none_24 x = rw (never x)

  module _ (away : u ≢ border_at G i) where
    none_21 : (x : ℕ) → fails 21 G p i u x ≡ false
    unfolding fails
    none_21 x = rw (ne_eqb u (border_at G i) away)

    pub blank_ahead : {period : ℕ} {old marks : List ℕ} → any G.graph.arcs (ahead G p i u) ≡ true → 0 <
        period
        → Filled 0 period (λ _. 7) old marks → Lowest G p i u period 25 22 marks
    unfolding tells
    blank_ahead {period} e h f = record {
      low = omega arith;
      passed = λ m x lo hi o k. let z : m ≡ 21 = omega arith in rw z (none_21 x);
      some = λ _. yes_any (fails 22 G p i u) period 0 h (is_22 0 ∙ e);
      told = λ _ x k. rw (f.written x (omega arith) k) (sym (is_22 x ∙ e));
    }

    pub blank_none : {period : ℕ} {marks : List ℕ} → any G.graph.arcs (ahead G p i u) ≡ false
        → Lowest G p i u period 25 25 marks
    blank_none e = record {
      low = omega arith;
      passed = λ m x lo hi o k.
          each_test (λ n. fails n G p i u x ≡ false) m lo (omega arith) (none_21 x) (is_22 x ∙ e) (none_23 x)
          (none_24 x);
      some = λ o. absurd (omega arith);
      told = λ o. absurd (omega arith);
    }
