-- What is left to do, as a number: it falls with each node that is taken. Twice the sum of all numbers, and
-- the dirty nodes: an arc that lowers some number makes at most one more node dirty.
use mathlib.Core.{Path.◌≡◌, Path.refl, Path.ap, Bool.false, Logic.◌≢◌, List.List}
use Rattle.std.specs.Prelude.{ℕ, zero, suc, ◌+◌, ◌*◌, ◌≤◌, ◌<◌, min}
use native.Mathlib.{Omega.arith, Decide.ℕ_discrete, Decide.dec_lt}
use lib.{ListN.length, ListN.get_or, ListN.set, Seq.get_or-set_same, Seq.get_or-set_other}
use Rattle.theory_loops.specs.Total.{total, total_same}
use Rattle.toward_row.specs.{Cut.Cut, Lower.entries}
use Rattle.network.specs.Limits.{most_nodes}

-- 1 where a node is dirty
unfoldable pub flag : List ℕ → ℕ → ℕ
flag D v = min 1 (get_or D v 0)

unfoldable pub burden : ℕ → List ℕ → List ℕ → ℕ
burden n W D = 2 * total n (entries W) + total most_nodes (flag D)

total_le : (f g : ℕ → ℕ) (n : ℕ) → ((i : ℕ) → i < n → f i ≤ g i) → total n f ≤ total n g
unfolding total
total_le f g zero h = omega arith
total_le f g (suc n) h = omega (arith, total_le f g n (λ i l. h i (omega arith)), h n (omega arith))

total_less : (f g : ℕ → ℕ) (n k : ℕ) → ((i : ℕ) → i < n → f i ≤ g i) → k < n → f k < g k
    → total n f < total n g
unfolding total
total_less f g zero k h l m = absurd (omega arith)
total_less f g (suc n) k h l m = elim (ℕ_discrete k n) [
  | yes e ↦ omega (arith, total_le f g n (λ i o. h i (omega arith)), rw e at m)
  | no e ↦ omega (arith, total_less f g n k (λ i o. h i (omega arith)) (omega arith) m, h n (omega arith))
]

-- two functions that differ at k alone
total_at : (f g : ℕ → ℕ) (n k : ℕ) → k < n → ((i : ℕ) → i ≢ k → f i ≡ g i) → total n f + g k ≡ total n g + f k
unfolding total
total_at f g zero k l h = absurd (omega arith)
total_at f g (suc n) k l h = elim (ℕ_discrete k n) [
  | yes e ↦ rw e (omega (arith, total_same f g n (λ i o. h i (omega arith))))
  | no e ↦ omega (arith, total_at f g n k (omega arith) h, h n (λ q. omega arith))
]

-- one entry stored
pub total_set : (D : List ℕ) (n k e : ℕ) → k < n → k < length D
    → total n (flag (set D k e)) + min 1 (get_or D k 0) ≡ total n (flag D) + min 1 e
unfolding flag
total_set D n k e l m =
    let z = total_at (flag (set D k e)) (flag D) n k l (λ i ne. ap (min 1) (get_or-set_other D k i e 0 ne)) in
    rw (get_or-set_same D k e 0 m) at z

pub total_flag : (D : List ℕ) (n : ℕ) → total n (flag D) ≤ n
unfolding total flag
total_flag D zero = omega arith
total_flag D (suc n) = omega (arith, total_flag D n)

module _ (n : ℕ) (D : List ℕ) (v : ℕ) (l : v < most_nodes) (m : v < length D) where
  -- a dirty node is taken
  pub burden_clear : (W : List ℕ) → get_or D v 0 ≢ 0 → burden n W (set D v 0) < burden n W D
  unfolding burden
  burden_clear W ne = omega (arith, total_set D most_nodes v 0 l m, ne)

  -- some number fell, and a node is dirty
  pub burden_lower : {p e r : ℕ} {f : ℕ → ℕ} {W M : List ℕ} → Cut false p e f W M r → 0 < r
      → e ≤ n
      → ((k : ℕ) → p ≤ k → k < e → f k ≤ get_or W k 0)
      → (d : ℕ) → burden n M (set D v d) ≤ burden n W D
  unfolding burden entries
  burden_lower {p} {e} {W = W} {M = M} c some within low d =
      let w = c.some refl some in
      let at : w.at < n = omega (arith, w.to) in
      omega (
        arith,
        total_less (entries M) (entries W) n w.at (λ i o. lower i) at w.less,
        total_set D most_nodes v d l m,
      )
    where
      lower : (i : ℕ) → entries M i ≤ entries W i
      lower i = elim (dec_lt i p) [
        | yes h ↦ omega (arith, c.filled.before i h)
        | no h ↦ elim (dec_lt i e) [
          | yes k ↦ omega (arith, c.filled.written i (omega arith) k, low i (omega arith) k)
          | no k ↦ omega (arith, c.filled.after i (omega arith))
        ]
      ]
