-- The laws by which the code comes to what is told of a node, in the files' terms: at the border itself,
-- where only 21 is left to look for, at a node without points, and at any other.
use mathlib.Core.{Path.◌≡◌, Path.sym, Path.◌∙◌, Path.subst, Logic.◌≢◌, List.List}
use Rattle.std.specs.Prelude.{ℕ, ◌+◌, ◌*◌, ◌≤◌, ◌<◌}
use Rattle.std.proofs.Common.{arith}
use Rattle.network.specs.{Decode.decode, Town.partition_of}
use Rattle.search_chains.specs.Town.{lawful}
use Rattle.plan.specs.{Border.border_at, Plan.point_count, Plan.profile_value, PlanDecode.decode_plan}
use Rattle.plan_tests.specs.declared.tests.{Layouts.Layouts, Target.Target}
use Rattle.plan_tests.specs.{Finds.node_finds, Finds.Counted, Giving.Prepared, Giving.profile_same}
use Rattle.profile_runs.specs.Numbers.{number_value}
use Rattle.node_bare.specs.Home.{AtHome}
use Rattle.node_runs.specs.{Adds.numbers_of, Finding.node_finds_lem, Judged.Judged}
use Rattle.node_verdict.specs.Lowest.{Lowest, Tallied, lowest_below, lowest_skipped}
use Rattle.node_verdict.specs.Home.{home_telling}
use Rattle.node_verdict.specs.Marks.{Marked, marked_lowest, judged_telling}

module _ {network plan : List ℕ} {l : Layouts} {points starts : List ℕ} {b : Target}
    (w : Prepared network plan l points starts b) (u : ℕ) where
  -- what is told, and the finds that it took
  abbrev pub Told : ℕ → ℕ → List ℕ → ℕ → ℕ → Type 0
  Told limit number marks before after =
      Lowest (partition_of (decode network)) (decode_plan plan) b.number u l.network.period limit number
      marks
      × Tallied limit (point_count (decode_plan plan) (b.number * l.plan.nodes + u))
      (node_finds (decode network) (decode_plan plan) b.number u) before after

  -- a node that is not the target is not the border with its number
  pub away_border : u ≢ b.node → u ≢ border_at (partition_of (decode network)) b.number
  away_border h e = h (e ∙ sym w.aimed.node)

  module _ (limit : ℕ) (few : limit ≤ 25) (before : ℕ) where
    pub told_home : {number after : ℕ} {marks : List ℕ} → u ≡ b.node
        → AtHome (profile_value l.plan.period (decode_plan plan) (b.number * l.plan.nodes + u))
        l.plan.period marks
        → after ≡ before + point_count (decode_plan plan) (b.number * l.plan.nodes + u)
        → Marked marks l.network.period number → Told limit number marks before after
    told_home {number} {after} {marks} e h f m =
        let t = w.check.town in
        let a = rw (w.check.period, t.sizes.period, w.check.nodes, t.sizes.nodes) at h in (
          subst
              (λ (k : ℕ). Lowest (partition_of (decode network)) (decode_plan plan) b.number u k limit number
              marks)
              (sym t.sizes.period)
              (lowest_below limit
              (marked_lowest (home_telling _ _ _ _ (lawful t) (e ∙ w.aimed.node) a) (rw t.sizes.period
              at m))
              few),
          record { up = omega arith; no_fewer = λ _. omega arith; no_more = omega (arith, node_finds_lem w u) },
        )

    pub told_skipped : {marks : List ℕ} → u ≢ b.node → limit ≤ 22 → Told limit 25 marks before before
    told_skipped {marks} h m = (
      lowest_skipped _ _ _ u _ limit marks (away_border h) m,
      record { up = omega arith; no_fewer = λ o. absurd (omega arith); no_more = omega arith },
    )

    pub told_blank : {number : ℕ} {marks : List ℕ}
        → point_count (decode_plan plan) (b.number * l.plan.nodes + u) ≡ 0
        → Lowest (partition_of (decode network)) (decode_plan plan) b.number u l.network.period 25 number
        marks
        → Told limit number marks before before
    told_blank z h = (
      lowest_below limit h few,
      record { up = omega arith; no_fewer = λ _. omega arith; no_more = omega arith },
    )

    pub told_judged : {number after : ℕ} {marks : List ℕ} → u ≢ b.node
        → 0 < point_count (decode_plan plan) (b.number * l.plan.nodes + u)
        → Judged (partition_of (decode network)) (decode_plan plan) b.number u l.network.period marks
        → Counted (point_count (decode_plan plan) (b.number * l.plan.nodes + u))
        (node_finds (decode network) (decode_plan plan) b.number u) before after
        → Marked marks l.network.period number → Told limit number marks before after
    told_judged h some j c m = (
      lowest_below limit
          (marked_lowest
          (judged_telling j (away_border h) (numbers_of plan l b u)
          (λ x. sym (profile_same w.check b.number u x) ∙ number_value _ _ _ x some))
          m)
          few,
      record { up = omega (arith, c.no_fewer); no_fewer = λ _. c.no_fewer; no_more = c.no_more },
    )
