-- Sums of sums: term by term, of two functions, in either order, by rows, and of a term that counts once.
use mathlib.Core.{Path.◌≡◌, Path.refl, Path.sym, Path.◌∙◌, Path.ap, Bool.cond}
use Rattle.std.specs.Prelude.{ℕ, zero, suc, ◌+◌, ◌*◌, ◌≤◌, ◌<◌, eqb}
use native.Mathlib.{Decide.ℕ_discrete, Omega.arith}
use Rattle.std.proofs.Common.{eq-eqb, ne_eqb}
use Rattle.theory_loops.specs.Total.{total, total_same, total_add}

-- no term is more
pub total_le : (f g : ℕ → ℕ) (n : ℕ) → ((i : ℕ) → i < n → f i ≤ g i) → total n f ≤ total n g
unfolding total
total_le f g zero e = omega arith
total_le f g (suc n) e = omega (arith, total_le f g n (λ i l. e i (omega arith)), e n (omega arith))

pub total_plus : (f g : ℕ → ℕ) (n : ℕ) → total n (λ i. f i + g i) ≡ total n f + total n g
unfolding total
total_plus f g zero = refl
total_plus f g (suc n) = omega (arith, total_plus f g n)

pub total_zero : (n : ℕ) → total n (λ i. 0) ≡ 0
unfolding total
total_zero zero = refl
total_zero (suc n) = omega (arith, total_zero n)

-- in either order
pub total_swap : (f : ℕ → ℕ → ℕ) (m n : ℕ)
    → total m (λ i. total n (f i)) ≡ total n (λ j. total m (λ i. f i j))
unfolding total
total_swap f zero n = sym (total_zero n)
total_swap f (suc m) n =
    ap (λ (k : ℕ). k + total n (f m)) (total_swap f m n) ∙ sym (total_plus (λ j. total m (λ i. f i j)) (f m)
    n)

-- a term that counts at index k alone
pub total_one : (n k v : ℕ) → k < n → total n (λ i. cond (eqb k i) v 0) ≡ v
unfolding total
total_one zero k v l = absurd (omega arith)
total_one (suc n) k v l = elim (ℕ_discrete k n) [
  | yes e ↦ rw (eq-eqb k n e) (omega (arith, none n (omega arith)))
  | no e ↦ rw (ne_eqb k n e) (omega (arith, total_one n k v (omega arith)))
]
  where
    none : (m : ℕ) → m ≤ k → total m (λ i. cond (eqb k i) v 0) ≡ 0
    none m h = total_same _ (λ i. 0) m (λ i o. rw (ne_eqb k i (λ q. absurd (omega arith)))) ∙ total_zero m

-- m rows of n terms, one behind the other
pub total_rows : (f : ℕ → ℕ) (m n : ℕ) → total m (λ i. total n (λ j. f (i * n + j))) ≡ total (m * n) f
unfolding total
total_rows f zero n = let e : 0 * n ≡ 0 = omega arith in rw e
total_rows f (suc m) n =
    let e : suc m * n ≡ m * n + n = omega arith in
    rw e (ap (λ (k : ℕ). k + total n (λ j. f (m * n + j))) (total_rows f m n) ∙ sym (total_add f (m * n) n))
