-- The border itself: its own profile is 0 all day, and then no test fails there, or 21 fails at the ticks at
-- which it is not.
use mathlib.Core.{Path.◌≡◌, Path.refl, Path.sym, Path.◌∙◌, List.List}
use Rattle.std.specs.Prelude.{Bool, not, ◌&&◌, ℕ, ◌≤◌, ◌<◌}
use Rattle.std.proofs.Math.Bool.{true, false}
use Rattle.std.proofs.Common.{arith, le-ltb, eq-eqb}
use lib.{ListN.get_or, Dec.eqb}
use Rattle.theory_loops.specs.{First.any_clear, Pick.and_clear}
use Rattle.theory_paths.specs.{Graph.Lawful, Graph.all, Partition.Partition}
use Rattle.theory_paths.specs.Profiles.{Travel, unreachable, ticks}
use Rattle.plan.specs.{Border.border_at, Plan.Plan, Plan.profile}
use Rattle.plan_values.specs.Compare.{same, less, is_number}
use Rattle.plan_tests.specs.Tests.{giving, given, fails22, fails}
use Rattle.plan_tests.specs.Meaning.{same_true, gives_some, attained_given}
use Rattle.node_bare.specs.Home.{AtHome}
use Rattle.node_verdict.specs.{Lowest.tells, Lowest.each_test, Marks.Telling}

-- WHERE THE VALUE IS 0: nothing is less, and an arc takes a tick or more
least_zero : (t : Travel) → less t (ticks 0) ≡ false
least_zero unreachable = refl
least_zero (ticks d) = le-ltb d 0 (omega arith)

second_false : (a : Bool) {b : Bool} → b ≡ false → (a && b) ≡ false
second_false a {b} e = (and_clear a b).1 (λ _. e)

module _ (G : Partition) (p : Plan) (i u x : ℕ) (home : u ≡ border_at G i) where
  home_21 : (b : Bool) → same (profile G.graph p i u x) (ticks 0) ≡ b → fails 21 G p i u x ≡ not b
  unfolding fails
  home_21 b e = rw (eq-eqb u (border_at G i) home, e)

  module _ (ok : Lawful G.graph) (h : x < G.graph.period)
      (z : profile G.graph p i u x ≡ ticks 0) where
    none_less : fails 22 G p i u x ≡ false
    unfolding fails fails22
    none_less = (any_clear _ G.graph.arcs).1 λ a l.
        let e : less (giving G p i a x) (profile G.graph p i u x) ≡ false =
        rw z (least_zero (giving G p i a x)) in
        second_false (eqb (G.graph.tail a) u) e

    none_given : (t : Bool) → given G p all i u x ≡ t → t ≡ false
    none_given true e =
        let (a, f, v) = (attained_given G p i all u x 0 z).0 e in
        absurd (omega (arith, gives_some ok (profile G.graph p i) a x 0 f h v))
    none_given false e = refl

    home_23 : fails 23 G p i u x ≡ false
    unfolding fails
    home_23 = rw (eq-eqb u (border_at G i) home) (second_false (is_number (profile G.graph p i u x)) refl)

    home_24 : fails 24 G p i u x ≡ false
    unfolding fails
    home_24 =
        rw (none_given (given G p all i u x) refl)
        (second_false (is_number (profile G.graph p i u x)) refl)

    home_clean : (number : ℕ) → 21 ≤ number → number < 25 → fails number G p i u x ≡ false
    home_clean number l m =
        each_test (λ n. fails n G p i u x ≡ false) number l m (home_21 true (rw z)) none_less home_23 home_24

-- a byte tells of no test
passed_byte : (marks : List ℕ) (x : ℕ) → get_or marks x 0 ≡ 6 → (number : ℕ) → 21 ≤ number → number < 25
    → tells marks number x ≡ false
unfolding tells
passed_byte marks x e number l h =
    each_test (λ n. tells marks n x ≡ false) number l h (rw e) (rw e) (rw e) (rw e)

module _ (G : Partition) (p : Plan) (i u : ℕ) {marks : List ℕ} (ok : Lawful G.graph)
    (home : u ≡ border_at G i) (a : AtHome (profile G.graph p i u) G.graph.period marks) where
  tells_21 : (x : ℕ) → x < G.graph.period → tells marks 21 x ≡ fails 21 G p i u x
  unfolding tells
  tells_21 x k = by (same (profile G.graph p i u x) (ticks 0)) refl
    where
      by : (b : Bool) → same (profile G.graph p i u x) (ticks 0) ≡ b
          → tells marks 21 x ≡ fails 21 G p i u x
      by true e = rw (a.byte x k, e) (sym (home_21 G p i u x home true e))
      by false e = rw (a.byte x k, e) (sym (home_21 G p i u x home false e))

  -- where 21 does not fail, the value is 0
  value_zero : (x : ℕ) → fails 21 G p i u x ≡ false → profile G.graph p i u x ≡ ticks 0
  value_zero x e = by (same (profile G.graph p i u x) (ticks 0)) refl
    where
      by : (b : Bool) → same (profile G.graph p i u x) (ticks 0) ≡ b
          → profile G.graph p i u x ≡ ticks 0
      by true f = same_true (profile G.graph p i u x) (ticks 0) f
      by false f =
          let g = sym (home_21 G p i u x home false f) ∙ e in
          let z : ◌≡◌ {A = ℕ} 0 1 = cc in absurd (omega arith)

  clean : (number x : ℕ) → 21 ≤ number → number < 25 → x < G.graph.period → fails 21 G p i u x ≡ false
      → tells marks number x ≡ fails number G p i u x
  clean number x lo hi k e =
      let z = value_zero x e in
      passed_byte marks x (a.byte x k ∙ rw z) number lo hi
      ∙ sym (home_clean G p i u x home ok k z number lo hi)

  pub home_telling : Telling G p i u G.graph.period marks
  home_telling = record {
    is = λ n x lo hi k before.
        each_test
        (λ n. ((m y : ℕ) → 21 ≤ m → m < n → y < G.graph.period → fails m G p i u y ≡ false)
        → tells marks n x ≡ fails n G p i u x)
        n lo hi (λ _. tells_21 x k)
        (λ b. clean 22 x (omega arith) (omega arith) k (b 21 x (omega arith) (omega arith) k))
        (λ b. clean 23 x (omega arith) (omega arith) k (b 21 x (omega arith) (omega arith) k))
        (λ b. clean 24 x (omega arith) (omega arith) k (b 21 x (omega arith) (omega arith) k)) before;
  }
