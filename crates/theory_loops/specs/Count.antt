-- How many indices below a bound pass a test, counted one by one, with the laws of the loop that counts. It
-- is the length of the list that `select` makes of them, and the index n, where it passes, is entry `count n`
-- of that list.
use mathlib.Core.{Path.◌≡◌, Path.refl, Path.sym, Path.ap, Bool.Bool, Bool.true, Bool.false, Bool.true≢false}
use Rattle.std.specs.Prelude.{[], ◌∷◌, ◌++◌, get_or}
use Prim.Native.Nat.{ℕ, zero, suc, ◌+◌, ◌≤◌, ◌<◌}
use native.Mathlib.{Numerals.add-one, Omega.arith}
use Rattle.std.proofs.Math.ListN.{length}
use Rattle.std.proofs.Common.{length-append}
use Rattle.theory_loops.specs.Select.{select, selected_at, rank_grows, rank_rises}

unfoldable pub count : ℕ → (ℕ → Bool) → ℕ
count zero p = 0
count (suc n) p =
    let c = count n p in
    elim (p n) [ true ↦ suc c | false ↦ c ]

module _ (p : ℕ → Bool) where
  -- FOR A LOOP
  pub count_none : 0 ≡ count 0 p
  unfolding count
  count_none = refl

  pub count_yes : (c n : ℕ) → c ≡ count n p → p n ≡ true → c + 1 ≡ count (n + 1) p
  unfolding count
  count_yes c n e t = rw (add-one n, t, count) (omega arith)

  pub count_no : (c n : ℕ) → c ≡ count n p → p n ≡ false → c ≡ count (n + 1) p
  unfolding count
  count_no c n e t = rw (add-one n, t, count) e

  pub count_end : (c i n : ℕ) → c ≡ count i p → i ≤ n → n ≤ i → c ≡ count n p
  count_end c i n e l m = let q : i ≡ n = omega arith in rw q at e

  -- no more than there are indices
  pub count_few : (n : ℕ) → count n p ≤ n
  unfolding count
  count_few zero = omega arith
  count_few (suc n) = go (p n) (count_few n)
    where
      go : (t : Bool) → count n p ≤ n → (elim t [ true ↦ suc (count n p) | false ↦ count n p ]) ≤ suc n
      go true h = omega arith
      go false h = omega arith

  -- it is how many `select` lists
  pub count_select : (n : ℕ) → length (select n p) ≡ count n p
  unfolding select count
  count_select zero = refl
  count_select (suc n) = go (p n) (count_select n)
    where
      go : (t : Bool) → length (select n p) ≡ count n p
          → length {A = ℕ} (elim t [ true ↦ select n p ++ (n ∷ []) | false ↦ select n p ])
          ≡ (elim t [ true ↦ suc (count n p) | false ↦ count n p ])
      go true h = rw (length-append (select n p) (n ∷ [])) (omega arith)
      go false h = h

  -- so it never falls, and rises past an index that passes
  pub count_grows : (m n : ℕ) → m ≤ n → count m p ≤ count n p
  count_grows m n l = omega (arith, rank_grows p m n l, count_select m, count_select n)

  pub count_rises : (m n : ℕ) → m < n → p m ≡ true → count m p < count n p
  count_rises m n l t = omega (arith, rank_rises p m n l t, count_select m, count_select n)

  -- an index at which it rises passes
  pub count_passes : (n : ℕ) → count n p < count (n + 1) p → p n ≡ true
  unfolding count
  count_passes n l = go (p n) refl
    where
      go : (t : Bool) → p n ≡ t → t ≡ true
      go true e = refl
      go false e = absurd (omega (arith, count_no (count n p) n refl e))

  -- and an index that passes stands in that list behind those counted before it
  pub counted_at : (n v : ℕ) → v < n → p v ≡ true → get_or (select n p) (count v p) 0 ≡ v
  counted_at n v l t = rw (count_select v) at (selected_at p n v l t)

-- two tests that agree below n count and list the same
pub count_same : (p q : ℕ → Bool) (n : ℕ) → ((i : ℕ) → i < n → p i ≡ q i) → count n p ≡ count n q
unfolding count
count_same p q zero h = refl
count_same p q (suc n) h = go (p n) (q n) (h n (omega arith)) (count_same p q n (λ i l. h i (omega arith)))
  where
    go : (s t : Bool) → s ≡ t → count n p ≡ count n q
        → ◌≡◌ {A = ℕ} (elim s [ true ↦ suc (count n p) | false ↦ count n p ])
        (elim t [ true ↦ suc (count n q) | false ↦ count n q ])
    go true true e f = ap suc f
    go true false e f = absurd (true≢false e)
    go false true e f = absurd (true≢false (sym e))
    go false false e f = f
