-- The laws that a branch of the code cites where the contract is a nest of `cond`: a test applies, or is
-- passed.
use mathlib.Core.{Path.◌≡◌, Path.refl, Logic.◌↔◌}
use Rattle.std.specs.Prelude.{Bool, ◌||◌, ◌&&◌, ℕ, ◌≤◌, ◌<◌}
use Rattle.std.proofs.Math.Bool.{true, false, cond}
use Rattle.std.proofs.Common.{arith}
use borrow.Author.Tests.{ltb-true, ltb-false, lt-ltb, le-ltb, le-leb, lt-leb, eq-eqb, ne_eqb}
use Rattle.theory_loops.specs.First.{first, any, first_le, clear, all_clear, told}

module _ {A : Type 0} where
  pub taken : (r a b : A) (t : Bool) → t ≡ true → r ≡ a → r ≡ cond t a b
  taken r a b t e f = rw e f

  pub passed : (r a b : A) (t : Bool) → t ≡ false → r ≡ b → r ≡ cond t a b
  passed r a b t e f = rw e f

-- a rung that is taken at the first index below n at which p holds, with an answer made of that index
unfoldable pub first_rung : {A : Type 0} → (ℕ → A) → ℕ → (ℕ → Bool) → A → A
first_rung k n p b = cond (any n p) (k (first n p)) b

module _ {A : Type 0} where
  pub at_first : (r b : A) (k : ℕ → A) (n v : ℕ) (p : ℕ → Bool) → v ≡ first n p → v < n → r ≡ k v
      → r ≡ first_rung k n p b
  unfolding first_rung
  at_first r b k n v p e l f = rw (← e, lt-ltb v n l) f

  pub past_first : (r b : A) (k : ℕ → A) (n v : ℕ) (p : ℕ → Bool) → v ≡ first n p → n ≤ v → r ≡ b
      → r ≡ first_rung k n p b
  unfolding first_rung
  past_first r b k n v p e l f = rw (← e, le-ltb v n l) f

-- the same for `||` and `&&`, nested to the right, whose value is returned: the flag that decides, or a
-- literal for it
pub or_here : (t u : Bool) → t ≡ true → t ≡ t || u
or_here t u e = rw e

pub or_true : (t u : Bool) → t ≡ true → true ≡ t || u
or_true t u e = rw e

pub or_next : (r t u : Bool) → t ≡ false → r ≡ u → r ≡ t || u
or_next r t u e f = rw e f

pub and_here : (t u : Bool) → t ≡ false → t ≡ t && u
and_here t u e = rw e

pub and_false : (t u : Bool) → t ≡ false → false ≡ t && u
and_false t u e = rw e

pub and_next : (r t u : Bool) → t ≡ true → r ≡ u → r ≡ t && u
and_next r t u e f = rw e f

-- for `search picks depth n`, n the number of tests on the way and two more. The laws that pass a test come
-- first: they are the ones at most tests. It reaches about ten tests. Beyond, split the function, or write
-- the chain: `past_first _ _ _ _ _ _ (c .. .ensures) (c .. .left) (passed _ _ _ _ (lt-leb _ _ (c .. .left))
-- ..)`
pub ruleset picks = (
  past_first,
  passed,
  or_next,
  and_next,
  at_first,
  taken,
  or_here,
  or_true,
  and_here,
  and_false,
  told,
  le-leb,
  lt-leb,
  lt-ltb,
  le-ltb,
  eq-eqb,
  ne_eqb,
)

-- FOR A READER of a ladder: where its answer is none of a rung's, the rung was passed, at every index; and
-- the other way round
module _ {A : Type 0} where
  pub passed_by_lem : (t : Bool) (a b x : A) → (a ≡ x → ⊥) → cond t a b ≡ x → (t ≡ false) × (b ≡ x)
  passed_by_lem true a b x h e = absurd (h e)
  passed_by_lem false a b x h e = (refl, e)

  pub reached_by : (t : Bool) (a b x : A) → (b ≡ x → ⊥) → cond t a b ≡ x → (t ≡ true) × (a ≡ x)
  reached_by true a b x h e = (refl, e)
  reached_by false a b x h e = absurd (h e)

  pub rung_passed : (k : ℕ → A) (n : ℕ) (p : ℕ → Bool) (b x : A) → ((i : ℕ) → i < n → k i ≡ x → ⊥)
      → first_rung k n p b ≡ x
      → ((i : ℕ) → i < n → p i ≡ false) × (b ≡ x)
  unfolding first_rung
  rung_passed k n p b x h e = go (any n p) refl e
    where
      go : (t : Bool) → any n p ≡ t → cond t (k (first n p)) b ≡ x → ((i : ℕ) → i < n → p i ≡ false) × (b ≡ x)
      go true q f = absurd (h (first n p) (ltb-true (first n p) n q) f)
      go false q f = (clear p n (omega (arith, ltb-false (first n p) n q, first_le p n)), f)

  pub rung_clear : (k : ℕ → A) (n : ℕ) (p : ℕ → Bool) (b : A) → ((i : ℕ) → i < n → p i ≡ false)
      → first_rung k n p b ≡ b
  unfolding first_rung
  rung_clear k n p b h = rw (le-ltb (first n p) n (omega (arith, all_clear p n h)))

-- what every answer of a ladder has, the ladder has
module _ {A : Type 0} (P : A → Type 0) where
  pub cond_holds : (t : Bool) (a b : A) → P a → P b → P (cond t a b)
  cond_holds true a b h k = h
  cond_holds false a b h k = k

  pub rung_holds : (k : ℕ → A) (n : ℕ) (p : ℕ → Bool) (b : A) → ((i : ℕ) → P (k i)) → P b
      → P (first_rung k n p b)
  unfolding first_rung
  rung_holds k n p b h q = cond_holds (any n p) (k (first n p)) b (h (first n p)) q

pub or_passed : (a b : Bool) → (a || b) ≡ false → (a ≡ false) × (b ≡ false)
or_passed true b e = let z : ◌≡◌ {A = ℕ} 0 1 = cc in absurd (omega arith)
or_passed false b e = (refl, e)

pub and_clear : (a b : Bool) → ((a && b) ≡ false) ↔ (a ≡ true → b ≡ false)
and_clear true b = (λ e _. e, λ h. h refl)
and_clear false b = (λ e f. let z : ◌≡◌ {A = ℕ} 0 1 = cc in absurd (omega arith), λ h. refl)
