-- The first index below a bound at which a test holds, with its laws: what every loop cites that is left at
-- the first failing index.
use mathlib.Core.{Path.◌≡◌, Path.refl, Path.sym, Path.◌∙◌, Logic.◌↔◌}
use Rattle.std.specs.Prelude.{Bool, true, false, cond, ◌||◌, ltb}
use Prim.Native.Nat.{ℕ, zero, suc, ◌+◌, ◌≤◌, ◌<◌}
use native.Mathlib.{Numerals.add-one, Nat.le_antisymm, Decide.dec_le, Omega.arith}
use Rattle.std.proofs.Common.{below_more, lt-ltb, le-ltb, le-leb, eq-eqb, ne_eqb, ltb-true, ltb-false}
use Rattle.std.proofs.lemmas.Bool.{lt-leb}

-- the least i below n with p i, else n; p is looked at no further than that i
unfoldable pub first : ℕ → (ℕ → Bool) → ℕ
first zero p = zero
first (suc n) p =
    let r = first n p in
    elim (ltb r n) [ true ↦ r | false ↦ elim (p n) [ true ↦ n | false ↦ suc n ] ]

-- does p hold anywhere below n
abbrev pub any : ℕ → (ℕ → Bool) → Bool
any n p = ltb (first n p) n

-- what makes r the first: it is at most n, p is false below it, and true at it where it is below n
pub record First (n : ℕ) (p : ℕ → Bool) (r : ℕ) : Type 0 where
  pub within : r ≤ n
  pub before : (k : ℕ) → k < r → p k ≡ false
  pub at : r < n → p r ≡ true

module _ (p : ℕ → Bool) where
  -- one more index: a first that was found stays, else the new index is it or is passed
  more : (n r : ℕ) (t u : Bool) → ltb r n ≡ t → p n ≡ u → First n p r
      → First (suc n) p (elim t [ true ↦ r | false ↦ elim u [ true ↦ n | false ↦ suc n ] ])
  more n r true u e f h =
      let l : r < n = ltb-true r n e in
      record { within = omega (arith, h.within); before = h.before; at = λ _. h.at l }
  more n r false true e f h =
      record {
        within = omega arith;
        before = λ k l. h.before k (omega (arith, ltb-false r n e));
        at = λ _. f;
      }
  more n r false false e f h =
      record {
        within = omega arith;
        before = λ k l. below_more (λ j. p j ≡ false) n
            (λ j m. h.before j (omega (arith, ltb-false r n e))) f k (omega arith);
        at = λ l. absurd (omega arith);
      }

  -- `first` is the first
  pub first_first : (n : ℕ) → First n p (first n p)
  unfolding first
  first_first zero =
      record { within = omega arith; before = λ k l. absurd (omega arith); at = λ l. absurd (omega arith) }
  first_first (suc n) = more n (first n p) (ltb (first n p) n) (p n) refl refl (first_first n)

  -- and nothing else is
  clash : (t : Bool) → t ≡ true → t ≡ false → ⊥
  clash t e f = let z : ◌≡◌ {A = ℕ} 0 1 = cc in omega arith

  below : (n a b : ℕ) → First n p a → First n p b → b ≤ a
  below n a b f g =
      elim (dec_le b a) [
        | yes h ↦ h
        | no h ↦
            absurd (clash (p a) (f.at (omega (arith, g.within))) (g.before a (omega arith)))
      ]

  pub first_is : (n r : ℕ) → First n p r → r ≡ first n p
  first_is n r f =
      le_antisymm (below n (first n p) r (first_first n) f) (below n r (first n p) f (first_first n))

  -- FOR A CALLER: at most n; none below n; the one found; none before it
  pub first_le : (n : ℕ) → first n p ≤ n
  first_le n = (first_first n).within

  pub clear : (n : ℕ) → first n p ≡ n → (k : ℕ) → k < n → p k ≡ false
  clear n e k l = (first_first n).before k (omega arith)

  pub all_clear : (n : ℕ) → ((k : ℕ) → k < n → p k ≡ false) → first n p ≡ n
  all_clear n h =
      sym (first_is n n (record { within = omega arith; before = h; at = λ l. absurd (omega arith) }))

  pub found : (n : ℕ) → first n p < n → p (first n p) ≡ true
  found n l = (first_first n).at l

  pub least : (n k : ℕ) → k < first n p → p k ≡ false
  least n k l = (first_first n).before k l

  -- the same of a yes or no: no is nowhere below n, yes is somewhere
  pub any_clear : (n : ℕ) → (any n p ≡ false) ↔ ((k : ℕ) → k < n → p k ≡ false)
  any_clear n = (
    λ e. clear n (omega (arith, ltb-false (first n p) n e, first_le n)),
    λ h. le-ltb (first n p) n (omega (arith, all_clear n h)),
  )

  pub any_found : (n : ℕ) → any n p ≡ true → (k : ℕ) × (k < n) × (p k ≡ true)
  any_found n e = let l : first n p < n = ltb-true (first n p) n e in (first n p, l, found n l)

  -- FOR A LOOP that counts i up to n, with the invariant `(i ≤ n) × (first i p ≡ i)`: p is false at every
  -- index passed
  pub none_yet : first 0 p ≡ 0
  unfolding first
  none_yet = refl

  pub pass : (i : ℕ) → first i p ≡ i → p i ≡ false → first (i + 1) p ≡ i + 1
  pass i e h =
      sym
      (first_is (i + 1) (i + 1)
      (record {
        within = omega arith;
        before = below_more _ _ (clear i e) h;
        at = λ l. absurd (omega arith);
      }))

  pub stop : (n i : ℕ) → first i p ≡ i → i < n → p i ≡ true → i ≡ first n p
  stop n i e l h = first_is n i (record { within = omega arith; before = clear i e; at = λ _. h })

  pub done : (n i : ℕ) → first i p ≡ i → i ≤ n → n ≤ i → i ≡ first n p
  done n i e l h = first_is n i (record { within = l; before = clear i e; at = λ m. absurd (omega arith) })

  pub end : (n i : ℕ) → first i p ≡ i → i ≤ n → n ≤ i → n ≡ first n p
  end n i e l h = omega (arith, done n i e l h)

  -- the same loop with a yes or no for its answer
  pub some : (n i : ℕ) → i < n → p i ≡ true → true ≡ any n p
  some n i l h =
      elim (dec_le n (first n p)) [
        | yes m ↦ absurd (clash (p i) h (least n i (omega arith)))
        | no m ↦
            sym (lt-ltb (first n p) n (omega arith))
      ]

  pub none : (n i : ℕ) → first i p ≡ i → i ≤ n → n ≤ i → false ≡ any n p
  none n i e l h = sym (le-ltb (first n p) n (omega (arith, done n i e l h)))

  -- and that answer as the test of a loop around it
  pub yes_any : (n i : ℕ) → i < n → p i ≡ true → any n p ≡ true
  yes_any n i l h = sym (some n i l h)

  pub no_any : (n i : ℕ) → first i p ≡ i → i ≤ n → n ≤ i → any n p ≡ false
  no_any n i e l h = sym (none n i e l h)

-- one index more
pub first_more : (k : ℕ) (p : ℕ → Bool)
    → first (suc k) p ≡ cond (ltb (first k p) k) (first k p) (cond (p k) k (suc k))
unfolding first
first_more k p = go (ltb (first k p) k) (p k)
  where
    go : (a b : Bool)
        → (elim a [ true ↦ first k p | false ↦ elim b [ true ↦ k | false ↦ suc k ] ])
        ≡ cond a (first k p) (cond b k (suc k))
    go true b = refl
    go false true = refl
    go false false = refl

pub any_none : (p : ℕ → Bool) → any 0 p ≡ false
any_none p = rw (none_yet p)

pub any_more : (k : ℕ) (p : ℕ → Bool) → any (k + 1) p ≡ any k p || p k
any_more k p = rw (add-one, first_more k p) (go (ltb (first k p) k) (p k) refl)
  where
    go : (t u : Bool) → ltb (first k p) k ≡ t → ltb (cond t (first k p) (cond u k (suc k))) (suc k) ≡ t || u
    go true u e = lt-ltb (first k p) (suc k) (omega (arith, ltb-true (first k p) k e))
    go false true e = lt-ltb k (suc k) (omega arith)
    go false false e = le-ltb (suc k) (suc k) (omega arith)

-- two tests that agree below n have one first
pub first_same : (p q : ℕ → Bool) (n : ℕ) → ((k : ℕ) → k < n → p k ≡ q k) → first n p ≡ first n q
first_same p q n h =
    first_is q n (first n p)
    (record {
      within = first_le p n;
      before = λ k l. sym (h k (omega (arith, first_le p n))) ∙ least p n k l;
      at = λ l. sym (h (first n p) l) ∙ found p n l;
    })

-- a test that a call answered: t is what the call returned, u the definition that it ensures
pub told : (t u b : Bool) → t ≡ u → t ≡ b → u ≡ b
told t u b e f = sym e ∙ f

-- for `search firsts` at the needs of such a loop
pub ruleset firsts = (
  none_yet,
  pass,
  stop,
  done,
  end,
  some,
  none,
  yes_any,
  no_any,
  told,
  le-leb,
  lt-leb,
  lt-ltb,
  le-ltb,
  eq-eqb,
  ne_eqb,
)
