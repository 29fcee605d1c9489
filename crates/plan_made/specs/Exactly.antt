-- What the plan that is made of a network is, in wish 1's words, over paths and least travels alone: an arc
-- has
-- the flag of a cell exactly when both its ends lie in it or it starts a least path to some border of it at
-- some tick (`made_flag_exactly`); a profile has no points exactly where there is no path
-- (`made_never_exactly`);
-- and else it has a point exactly at tick 0 and at each later tick where the step to the next tick differs
-- from
-- the step before it (`made_points_exactly`), with the least travel there (`made_point_least`).
use mathlib.Core.{Path.◌≡◌, Path.sym, Path.◌∙◌, Path.ap, Bool.true, Bool.false, Bool.true≢false}
use Rattle.std.specs.Prelude.{◌≢◌, ◌↔◌, ◌⊎◌, ℕ, ◌+◌, ◌-◌, ◌*◌, ◌<◌}
use Rattle.std.proofs.Math.Logic.{inl, inr}
use native.Mathlib.{Omega.arith, Decide.ℕ_discrete}
use borrow.Author.Tests.{eq-eqb, ne_eqb}
use Rattle.theory_loops.specs.{Count.count, Grid.grid_in}
use Rattle.theory_paths.specs.{Graph.all, Graph.Reachable, Graph.EarliestArrival, Partition.Partition}
use Rattle.theory_paths.specs.{Earliest.never, Planned.Earns}
use Rattle.theory_paths.proofs.Planned.{planned_exactly}
use Rattle.theory_paths.specs.Least.{Modest, least_ticks}
use Rattle.theory_paths.proofs.Least.{least_never, least_earliest, least_capped}
use Rattle.theory_travel.specs.Turns.{turns, turn_count, turn_tick, around, turn_at, turn_rank, turns_day}
use Rattle.theory_travel.specs.Turns.{turn_is}
use Rattle.plan.specs.{Border.border_count, Border.border_at, Word.word_bit}
use Rattle.plan.specs.Plan.{flag, point_count, point_ticks, point_travels}
use Rattle.plan_made.specs.Made.{plan_of, made_flag, made_travel, made_count, made_profiles, made_word}
use Rattle.plan_made.specs.Made.{made_count_lem, made_tick, made_travel_lem, made_borders, count_none}
use Rattle.plan_made.specs.{Made.count_some, Made.number_border, Made.number_node}

-- The step to the next tick is not the step before it, for travels d at each tick; the period's end counts as
-- the next day's tick 0. Both sides of tick x add up to twice its own travel exactly where the steps are one.
abbrev pub Bends : (ℕ → ℕ) → ℕ → ℕ → Type 0
Bends d period x = around d period (x - 1) + around d period (x + 1) ≢ d x + d x

module _ (cells : ℕ) (G : Partition) (m : Modest G.graph) where
  -- FLAGS
  pub made_flag_exactly : (a c : ℕ) → a < G.graph.arcs → c < cells
      → (flag (plan_of cells G) a c ≡ true) ↔ Earns G.graph G.cell a c
  made_flag_exactly a c l h =
      let e : flag (plan_of cells G) a c ≡ made_flag G a c =
      rw (made_word cells G a l) (word_bit cells (made_flag G a) c h) in
      let x = planned_exactly m G.cell (made_borders cells G m) a c l in
      (λ f. x.0 (sym e ∙ f), λ f. e ∙ x.1 f)

  -- PROFILES: that of border number i and node u, from which d has the least travel at each tick
  module _ (i u : ℕ) (l : i < border_count G) (h : u < G.graph.nodes) where
    abbrev number : ℕ
    number = i * G.graph.nodes + u

    abbrev period : ℕ
    period = G.graph.period

    abbrev d : ℕ → ℕ
    d = least_ticks G.graph (border_at G i) u

    some : 0 < period
    some = m.lawful.positive

    in_plan : i * G.graph.nodes + u < made_profiles G
    in_plan = grid_in G.graph.nodes (border_count G) i u l h

    travel_is : made_travel G (i * G.graph.nodes + u) ≡ least_ticks G.graph (border_at G i) u
    travel_is =
        λ j. λ x. least_ticks G.graph (border_at G (number_border G.graph.nodes i u h j))
        (number_node G.graph.nodes i u h j) x

    -- it has no points exactly where there is no path
    none_is : made_travel G number 0 ≡ never → point_count (plan_of cells G) number ≡ 0
    none_is e = made_count_lem cells G number in_plan ∙ count_none cells G number e

    some_is : made_travel G number 0 ≢ never
        → point_count (plan_of cells G) number ≡ turn_count (made_travel G number) period
    some_is e = made_count_lem cells G number in_plan ∙ count_some cells G number e

    never_is : (made_travel G number 0 ≡ never) ↔ (¬ Reachable G.graph all u (border_at G i))
    never_is =
        let x = least_never m (border_at G i) {u = u} {x = 0} h some in
        let e = ap (λ (f : ℕ → ℕ). f 0) travel_is in
        (λ z. x.0 (sym e ∙ z), λ z. e ∙ x.1 z)

    pub made_never_exactly : (point_count (plan_of cells G) (i * G.graph.nodes + u) ≡ 0)
        ↔ (¬ Reachable G.graph all u (border_at G i))
    made_never_exactly = (
      λ z. elim (ℕ_discrete (made_travel G number 0) never) [
        | yes e ↦ never_is.0 e
        | no e ↦ absurd (omega (arith, z, some_is e, (turns_day (made_travel G number) period some).some))
      ],
      λ z. none_is (never_is.1 z),
    )

    module _ (r : Reachable G.graph all u (border_at G i)) where
      there : made_travel G number 0 ≢ never
      there e = never_is.0 e r

      -- a point at tick x, exactly
      turns_exactly : (f : ℕ → ℕ) (x : ℕ) → (turns f period x ≡ true) ↔ ((x ≡ 0) ⊎ Bends f period x)
      unfolding turns
      turns_exactly f x = (
        λ e. elim (ℕ_discrete x 0) [
          | yes z ↦ inl z
          | no z ↦ inr (λ q.
              let w : turns f period x ≡ false = rw (ne_eqb x 0 z, eq-eqb _ _ q) in
              true≢false (sym e ∙ w))
        ],
        λ e. elim e [
          | inl z ↦ rw (eq-eqb x 0 z)
          | inr z ↦ elim (ℕ_discrete x 0) [
            | yes q ↦ rw (eq-eqb x 0 q)
            | no q ↦ rw (ne_eqb x 0 q, ne_eqb _ _ z)
          ]
        ],
      )

      pub made_points_exactly : (x : ℕ) → x < G.graph.period
          → ((j : ℕ) × (j < point_count (plan_of cells G) (i * G.graph.nodes + u))
          × (point_ticks (plan_of cells G) (i * G.graph.nodes + u) j ≡ x))
          ↔ ((x ≡ 0) ⊎ Bends (least_ticks G.graph (border_at G i) u) G.graph.period x)
      made_points_exactly x b =
          let f = made_travel G number in
          let c = some_is there in
          let t = rw travel_is at (turns_exactly f x) in
          let y : turns f period x ≡ turns (least_ticks G.graph (border_at G i) u) period x =
          ap (λ (g : ℕ → ℕ). turns g period x) travel_is in (
            λ (j, k, e).
                let o : j < made_count G number = omega (arith, made_count_lem cells G number in_plan) in
                let q : turn_tick f period j ≡ x = sym (made_tick cells G number j in_plan o) ∙ e in
                t.0 (sym y ∙ (rw q at (turn_is f period j (omega (arith, c))).passes)),
            λ e.
                let q : turns f period x ≡ true = y ∙ t.1 e in
                let j = count x (turns f period) in
                let k = turn_rank f period x b q in
                let o : j < made_count G number = omega (arith, c, made_count_lem cells G number in_plan) in
                (j, omega (arith, c), made_tick cells G number j in_plan o ∙ turn_at f period x b q),
          )

      -- with the least travel there
      pub made_point_least : (j : ℕ) → j < point_count (plan_of cells G) (i * G.graph.nodes + u)
          → EarliestArrival G.graph all u (point_ticks (plan_of cells G) (i * G.graph.nodes + u) j)
          (border_at G i)
          (point_ticks (plan_of cells G) (i * G.graph.nodes + u) j
          + point_travels (plan_of cells G) (i * G.graph.nodes + u) j)
      made_point_least j k =
          let f = made_travel G number in
          let o : j < made_count G number = omega (arith, made_count_lem cells G number in_plan) in
          let w : turn_tick f period j < period =
          (turns_day f period some).below j (omega (arith, some_is there)) in
          let g = ap (λ (g : ℕ → ℕ). g (turn_tick f period j)) travel_is in
          let z : least_ticks G.graph (border_at G i) u (turn_tick f period j) ≢ never =
          λ q. there (never_is.1 ((least_never m (border_at G i) {u = u} h w).0 q)) in
          rw (made_tick cells G number j in_plan o, made_travel_lem cells G number j in_plan o, g)
          (least_earliest m (border_at G i) h w
          (omega (arith, z, least_capped m (border_at G i) {u = u} {x = turn_tick f period j} h w)))
