-- The first failing triple of indices in three ranges, the first range weighing most.
use mathlib.Core.{Path.◌≡◌, Path.refl, Logic.◌↔◌, Bool.Bool, Bool.true, Bool.false, Bool.cond}
use Rattle.std.specs.Prelude.{ℕ, ◌<◌}
use Rattle.theory_loops.specs.First.{first, any, any_clear, all_clear, stop, yes_any}

-- some triple passes the test
abbrev pub any_triple : ℕ → ℕ → ℕ → (ℕ → ℕ → ℕ → Bool) → Bool
any_triple l m n p = any l (λ i. any m (λ j. any n (p i j)))

-- the indices of the first: the least i with a j and a k, its least j with a k, and the least k of these
abbrev pub first_of : ℕ → ℕ → ℕ → (ℕ → ℕ → ℕ → Bool) → ℕ
first_of l m n p = first l (λ i. any m (λ j. any n (p i j)))

abbrev pub second_of : ℕ → ℕ → ℕ → (ℕ → ℕ → ℕ → Bool) → ℕ
second_of l m n p = first m (λ j. any n (p (first_of l m n p) j))

abbrev pub third_of : ℕ → ℕ → ℕ → (ℕ → ℕ → ℕ → Bool) → ℕ
third_of l m n p = first n (p (first_of l m n p) (second_of l m n p))

-- a rung that is taken at the first triple at which p holds, with an answer made of its indices
unfoldable pub first_triple_rung : {A : Type 0} → (ℕ → ℕ → ℕ → A) → ℕ → ℕ → ℕ → (ℕ → ℕ → ℕ → Bool) → A → A
first_triple_rung f l m n p b =
    cond (any_triple l m n p) (f (first_of l m n p) (second_of l m n p) (third_of l m n p)) b

module _ (p : ℕ → ℕ → ℕ → Bool) (l m n : ℕ) where
  -- nothing before i, at i nothing before j, there nothing before k, and the test holds
  module _ (i j k : ℕ) (ei : first i (λ i. any m (λ j. any n (p i j))) ≡ i) (li : i < l)
      (ej : first j (λ j. any n (p i j)) ≡ j) (lj : j < m)
      (ek : first k (p i j) ≡ k) (lk : k < n) (h : p i j k ≡ true) where
    at_second : any n (p i j) ≡ true
    at_second = yes_any (p i j) n k lk h

    at_first : any m (λ j. any n (p i j)) ≡ true
    at_first = yes_any _ m j lj at_second

    second : j ≡ first m (λ j. any n (p i j))
    second = stop _ m j ej lj at_second

    third : k ≡ first n (p i j)
    third = stop (p i j) n k ek lk h

    triple_any : any_triple l m n p ≡ true
    triple_any = yes_any _ l i li at_first

    triple_first : i ≡ first_of l m n p
    triple_first = stop _ l i ei li at_first

    triple_at : {A : Type 0} (f : ℕ → ℕ → ℕ → A) (r b : A) → r ≡ f i j k → r ≡ first_triple_rung f l m n p b
    unfolding first_triple_rung
    triple_at f r b e = rw triple_any (rw (← triple_first, ← second, ← third) e)

  -- a triple at which the test holds, and before which it holds nowhere
  module _ (i j k : ℕ) (li : i < l) (lj : j < m) (lk : k < n) (h : p i j k ≡ true)
      (bi : (a b c : ℕ) → a < i → b < m → c < n → p a b c ≡ false)
      (bj : (b c : ℕ) → b < j → c < n → p i b c ≡ false)
      (bk : (c : ℕ) → c < k → p i j c ≡ false) where
    pub triple_found : {A : Type 0} (f : ℕ → ℕ → ℕ → A) (b : A) → f i j k ≡ first_triple_rung f l m n p b
    triple_found f b =
        triple_at i j k
        (all_clear _ i (λ a la. (any_clear _ m).1 (λ y ly. (any_clear (p a y) n).1 (λ c lc. bi a y c la ly
        lc))))
        li (all_clear _ j (λ y ly. (any_clear (p i y) n).1 (λ c lc. bj y c ly lc))) lj (all_clear (p i j) k bk)
        lk h f (f i j k) b refl

  -- FOR A READER: no triple passes exactly where the test is false at every triple in range
  pub triple_clear : (any_triple l m n p ≡ false) ↔ ((i j k : ℕ) → i < l → j < m → k < n → p i j k ≡ false)
  triple_clear = (
    λ e i j k li lj lk. (any_clear (p i j) n).0
        ((any_clear (λ j. any n (p i j)) m).0 ((any_clear (λ i. any m (λ j. any n (p i j))) l).0 e i li) j lj)
        k lk,
    λ h. (any_clear _ l).1
        (λ i li. (any_clear _ m).1 (λ j lj. (any_clear (p i j) n).1 (λ k lk. h i j k li lj lk))),
  )
