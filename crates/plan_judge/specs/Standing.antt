-- How the check stands: which of the tests 21 to 24 is the lowest that fails at the borders and nodes judged
-- so far, and the first place at which it does. Borders are judged in the order of their numbers, and nodes
-- at each, so that a lower number takes the place of the one found before, and the same number does not.
use mathlib.Core.{Path.◌≡◌, Path.sym, Path.◌∙◌, Logic.◌⊎◌, Logic.inl, Logic.inr, List.List}
use Rattle.std.specs.Prelude.{Bool, true, false, ℕ, ◌+◌, ◌≤◌, ◌<◌}
use native.Mathlib.{Decide.ℕ_discrete, Decide.dec_lt, Omega.arith}
use Rattle.theory_loops.specs.First.{first, clear, any_found}
use Rattle.theory_paths.specs.Partition.{Partition}
use Rattle.plan.specs.{Border.border_count, Plan.Plan}
use Rattle.plan_tests.specs.Tests.{fails}
use Rattle.node_verdict.specs.Lowest.{tells, Lowest}
use Rattle.plan_judge.specs.declared.Found.{Found}

-- border number j and node v come before border number i and node u
abbrev pub Before : ℕ → ℕ → ℕ → ℕ → Type 0
Before i u j v = (j < i) ⊎ ((j ≡ i) × (v < u))

-- the test with this number fails at tick x, and at none before
pub record FirstTick (G : Partition) (p : Plan) (i u number x : ℕ) : Type 0 where
  pub within : x < G.graph.period
  pub at : fails number G p i u x ≡ true
  pub before : (y : ℕ) → y < x → fails number G p i u y ≡ false

-- the first place at which the test that was found fails
pub record FirstPlace (G : Partition) (p : Plan) (f : Found) : Type 0 where
  pub border : f.border < border_count G
  pub node : f.node < G.graph.nodes
  pub tick : FirstTick G p f.border f.node f.number f.tick
  pub before : (j v x : ℕ) → Before f.border f.node j v → v < G.graph.nodes → x < G.graph.period
      → fails f.number G p j v x ≡ false

-- all that comes before border number i and node u is judged
pub record Stands (G : Partition) (p : Plan) (i u : ℕ) (f : Found) : Type 0 where
  pub low : 21 ≤ f.number
  pub high : f.number ≤ 25
  pub passed : (number j v x : ℕ) → 21 ≤ number → number < f.number → Before i u j v → v < G.graph.nodes
      → x < G.graph.period → fails number G p j v x ≡ false
  pub found : f.number < 25 → FirstPlace G p f

module _ {G : Partition} {p : Plan} where
  pub stands_first : {b u x : ℕ} → Stands G p 0 0 (record { number = 25; border = b; node = u; tick = x })
  stands_first = record {
    low = omega arith;
    high = omega arith;
    passed = λ n j v x lo hi q l m. none q;
    found = λ l. absurd (omega arith);
  }
    where
      none : {A : Type 0} {j v : ℕ} → Before 0 0 j v → A
      none (inl l) = absurd (omega arith)
      none (inr (e, l)) = absurd (omega arith)

  module _ {i u : ℕ} {f : Found} (s : Stands G p i u f) where
    -- one node more, of which a number is told
    module _ {number : ℕ} {marks : List ℕ}
        (w : Lowest G p i u G.graph.period f.number number marks) where
      more : (m j y x : ℕ) → 21 ≤ m → m < f.number → m < number → Before i (u + 1) j y
          → y < G.graph.nodes → x < G.graph.period → fails m G p j y x ≡ false
      more m j y x lo hi o (inl l) n k = s.passed m j y x lo hi (inl l) n k
      more m j y x lo hi o (inr (e, l)) n k = elim (dec_lt y u) [
        | yes q ↦ s.passed m j y x lo hi (inr (e, q)) n k
        | no q ↦
            let z : y ≡ u = omega arith in
            rw (e, z) (w.passed m x lo hi o k)
      ]

      pub stands_kept : f.number ≤ number → Stands G p i (u + 1) f
      stands_kept h = record {
        low = s.low;
        high = s.high;
        passed = λ m j y x lo hi q n k. more m j y x lo hi (omega arith) q n k;
        found = s.found;
      }

      module _ (h : number < f.number) {x : ℕ} (none : first x (tells marks number) ≡ x) where
        -- its ticks were passed up to x, at which it fails
        first_tick : x < G.graph.period → tells marks number x ≡ true → FirstTick G p i u number x
        first_tick l t = record {
          within = l;
          at = sym (w.told h x l) ∙ t;
          before = λ y m. sym (w.told h y (omega arith)) ∙ clear (tells marks number) x none y m;
        }

        pub stands_lower : i < border_count G → u < G.graph.nodes → x < G.graph.period
            → tells marks number x ≡ true
            → Stands G p i (u + 1) (record { number = number; border = i; node = u; tick = x })
        stands_lower b l k t = record {
          low = w.low;
          high = omega (arith, s.high);
          passed = λ m j y z lo hi q n o. more m j y z lo (omega arith) hi q n o;
          found = λ o. record {
            border = b;
            node = l;
            tick = first_tick k t;
            before = λ j y z q n o. s.passed number j y z w.low h q n o;
          };
        }

        -- it fails at some tick, so not all are passed
        pub some_tick : G.graph.period ≤ x → ⊥
        some_tick l =
            let (y, m, t) = any_found (fails number G p i u) G.graph.period (w.some h) in
            clash (tells marks number y) (w.told h y m ∙ t)
            (clear (tells marks number) x none y (omega arith))
          where
            clash : (b : Bool) → b ≡ true → b ≡ false → ⊥
            clash b e g = let z : ◌≡◌ {A = ℕ} 0 1 = cc in omega arith

    -- behind the lowest nothing is left to look for
    pub stands_least : f.number ≤ 21 → (j : ℕ) → Stands G p j 0 f
    stands_least e j = record {
      low = s.low;
      high = s.high;
      passed = λ m k y x lo hi q n o. absurd (omega arith);
      found = s.found;
    }

    -- all nodes of a border
    pub stands_row : G.graph.nodes ≤ u → Stands G p (i + 1) 0 f
    stands_row h = record {
      low = s.low;
      high = s.high;
      passed = λ n j y x lo hi q m k. s.passed n j y x lo hi (row q m) m k;
      found = s.found;
    }
      where
        row : {j y : ℕ} → Before (i + 1) 0 j y → y < G.graph.nodes → Before i u j y
        row {j} {y} (inl l) m = elim (ℕ_discrete j i) [
          | yes e ↦ inr (e, omega arith)
          | no e ↦ inl (omega
              (arith, e))
        ]
        row (inr (e, l)) m = absurd (omega arith)
