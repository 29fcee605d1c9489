-- The sum of a function's values below a bound, with its laws: running starts, such as the first point of
-- each arc.
use Rattle.std.specs.Prelude.{◌≡◌}
use Rattle.std.proofs.Math.Path.{refl}
use Prim.Native.Nat.{ℕ, zero, suc, ◌+◌, ◌-◌, ◌*◌, ◌≤◌, ◌<◌}
use native.Mathlib.{Nat.add-zero, Numerals.add-one, Omega.arith, Decide.ℕ_discrete}

unfoldable pub total : ℕ → (ℕ → ℕ) → ℕ
total zero f = 0
total (suc n) f = total n f + f n

module _ (f : ℕ → ℕ) where
  -- FOR A LOOP
  pub total_none : 0 ≡ total 0 f
  unfolding total
  total_none = refl

  pub total_more : (s v i : ℕ) → s ≡ total i f → v ≡ f i → s + v ≡ total (i + 1) f
  unfolding total
  total_more s v i e g = rw (add-one, e, g)

  pub total_end : (s i n : ℕ) → s ≡ total i f → i ≤ n → n ≤ i → s ≡ total n f
  total_end s i n e l m = let q : i ≡ n = omega arith in rw q at e

  -- the parts lie one behind the other: part i ends where part i + 1 starts, and no later than any later
  -- part's start
  pub total_part : (i n : ℕ) → i < n → total i f + f i ≤ total n f
  unfolding total
  total_part i zero l = absurd (omega arith)
  total_part i (suc n) l = elim (ℕ_discrete i n) [
    | yes e ↦ rw e (omega arith)
    | no e ↦ omega (arith, total_part i n (omega arith))
  ]

  -- a sum in two parts
  pub total_add : (a b : ℕ) → total (a + b) f ≡ total a f + total b (λ i. f (a + i))
  unfolding total
  total_add a zero = rw (add-zero a) (omega arith)
  total_add a (suc b) = let z : a + suc b ≡ suc (a + b) = omega arith in rw z (omega (arith, total_add a b))

  -- it never falls
  pub total_up : (a b : ℕ) → a ≤ b → total a f ≤ total b f
  total_up a b l =
      let e : a + (b - a) ≡ b = omega arith in
      omega (arith, rw e at (total_add a (b - a)))

  -- no more than the most of one for each
  pub total_most : (m n : ℕ) → ((i : ℕ) → i < n → f i ≤ m) → total n f ≤ n * m
  unfolding total
  total_most m zero h = omega arith
  total_most m (suc n) h = omega (arith, total_most m n (λ i l. h i (omega arith)), h n (omega arith))

-- two functions that agree below n have one sum
pub total_same : (f g : ℕ → ℕ) (n : ℕ) → ((i : ℕ) → i < n → f i ≡ g i) → total n f ≡ total n g
unfolding total
total_same f g zero h = refl
total_same f g (suc n) h = rw (total_same f g n (λ i l. h i (omega arith)), h n (omega arith))

-- for `search totals` at the needs of such a loop
pub ruleset totals = (total_none, total_more, total_end)
