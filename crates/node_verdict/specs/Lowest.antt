-- What is told of a node towards a border: the lowest of the tests 21 to 24 that fails there at some tick, 25
-- where none fails; and by a byte for each tick whether it fails at that tick.
use mathlib.Core.{Path.◌≡◌, Bool.Bool, Bool.true, Bool.false, Bool.cond, Bool.not, List.List, Logic.◌≢◌}
use Rattle.std.specs.Prelude.{ℕ, ◌+◌, ◌≤◌, ◌<◌}
use native.Mathlib.{Decide.ℕ_discrete, Omega.arith}
use lib.{ListN.get_or, Dec.eqb, Bits.bit_and, Bits.bit_xor}
use Rattle.std.proofs.Common.{ne_eqb}
use Rattle.theory_loops.specs.First.{any}
use Rattle.theory_paths.specs.Partition.{Partition}
use Rattle.plan.specs.{Border.border_at, Plan.Plan}
use Rattle.plan_tests.specs.Tests.{fails}

-- the bit of a test in the byte of a tick
abbrev pub bit_of : ℕ → ℕ
bit_of number = cond (eqb number 21) 8 (cond (eqb number 22) 1 (cond (eqb number 23) 2 4))

-- a tick's byte tells that the test with this number fails: its bit is not as in 6
unfoldable pub tells : List ℕ → ℕ → ℕ → Bool
tells marks number x = not (eqb (bit_and (bit_xor (get_or marks x 0) 6) (bit_of number)) 0)

-- THE RESULT, among the tests with numbers below the limit
pub record Lowest (G : Partition) (p : Plan) (i u period limit number : ℕ) (marks : List ℕ) : Type 0 where
  pub low : 21 ≤ number
  pub passed : (m x : ℕ) → 21 ≤ m → m < limit → m < number → x < period → fails m G p i u x ≡ false
  pub some : number < limit → any period (fails number G p i u) ≡ true
  pub told : number < limit → (x : ℕ) → x < period → tells marks number x ≡ fails number G p i u x

-- how many finds that took: none where only 21 is left and the node is not the border
pub record Tallied (limit own most before after : ℕ) : Type 0 where
  pub up : before ≤ after
  pub no_fewer : 22 < limit → before + own ≤ after
  pub no_more : after ≤ before + most

-- fewer tests to look for
pub lowest_below : {G : Partition} {p : Plan} {i u period number : ℕ} {marks : List ℕ} (limit : ℕ)
    → Lowest G p i u period 25 number marks → limit ≤ 25 → Lowest G p i u period limit number marks
lowest_below limit w h = record {
  low = w.low;
  passed = λ m x lo hi o k. w.passed m x lo (omega arith) o k;
  some = λ o. w.some (omega arith);
  told = λ o. w.told (omega arith);
}

-- a node that is not the border need not be judged where only 21 is left to look for
pub lowest_skipped : (G : Partition) (p : Plan) (i u period limit : ℕ) (marks : List ℕ) → u ≢ border_at G i
    → limit ≤ 22 → Lowest G p i u period limit 25 marks
unfolding fails
lowest_skipped G p i u period limit marks away h = record {
  low = omega arith;
  passed = λ m x lo hi o k. let z : m ≡ 21 = omega arith in rw (z, ne_eqb u (border_at G i) away);
  some = λ o. absurd (omega arith);
  told = λ o. absurd (omega arith);
}

-- what holds of each test holds of all
pub each_test : (P : ℕ → Type 0) (number : ℕ) → 21 ≤ number → number < 25 → P 21 → P 22 → P 23 → P 24 → P
    number
each_test P number l h a b c d =
    elim (ℕ_discrete number 21) [
      | yes e ↦ rw e a
      | no e ↦
          elim (ℕ_discrete number 22) [
            | yes f ↦ rw f b
            | no f ↦
                elim (ℕ_discrete number 23) [
                  | yes g ↦ rw g c
                  | no g ↦
                      let z : number ≡ 24 = omega (arith, e, f, g) in
                      rw z d
                ]
          ]
    ]
