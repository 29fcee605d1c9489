-- A flag word from a yes or no for each cell, and that it is the only word below 2 to the count of cells with
-- these flags; what one flag more makes of a word (`word_set`).
use mathlib.Core.{Path.◌≡◌, Path.refl, Path.sym, Path.◌∙◌, Logic.◌≢◌}
use Rattle.std.specs.Prelude.{Bool, true, false, cond, ◌||◌, ℕ, zero, suc, ◌+◌, ◌*◌, ◌/◌, ◌%◌, ◌^◌, ◌<◌, eqb}
use Rattle.std.proofs.Common.{pow-suc, eqb-true, eq-eqb, ne_eqb}
use Rattle.std.proofs.Math.Nat.{pow-succ', pow-zero, mul-add-div, mul-add-mod_self_left, div-div-eq-div-mul}
use native.Mathlib.{Nat.div-lt_iff_lt-mul, Nat.div-one, Nat.div-add-mod, Nat.mod-lt, Omega.arith}
use Rattle.std.proofs.lemmas.Bool.{eqb-false}
use Rattle.plan.specs.Plan.{bit}

unfoldable pub word_of : ℕ → (ℕ → Bool) → ℕ
word_of zero p = 0
word_of (suc k) p = 2 * word_of k (λ c. p (suc c)) + cond (p 0) 1 0

-- the lowest bit, and those above it
low : (w : ℕ) (t : Bool) → bit (2 * w + cond t 1 0) 0 ≡ t
low w t =
    rw (pow-zero, div-one, mul-add-mod_self_left 2 w (cond t 1 0))
    (elim t as (λ t. eqb (cond t 1 0 % 2) 1 ≡ t) [ true ↦ refl | false ↦ refl ])

half : (w : ℕ) (t : Bool) → (2 * w + cond t 1 0) / 2 ≡ w
half w t =
    mul-add-div (omega arith) w (cond t 1 0)
    ∙ elim t as (λ t. w + cond t 1 0 / 2 ≡ w) [ true ↦ omega arith | false ↦ omega arith ]

high : (w c : ℕ) → bit w (suc c) ≡ bit (w / 2) c
high w c = rw (pow-succ' 2 c, ← (div-div-eq-div-mul w 2 (2 ^ c)))

pub word_bit : (k : ℕ) (p : ℕ → Bool) (c : ℕ) → c < k → bit (word_of k p) c ≡ p c
unfolding word_of
word_bit zero p c l = absurd (omega arith)
word_bit (suc k) p zero l = low (word_of k (λ c. p (suc c))) (p 0)
word_bit (suc k) p (suc c) l =
    rw (high (2 * word_of k (λ c. p (suc c)) + cond (p 0) 1 0) c, half (word_of k (λ c. p (suc c))) (p 0))
    (word_bit k (λ c. p (suc c)) c (omega arith))

pub word_below : (k : ℕ) (p : ℕ → Bool) → word_of k p < 2 ^ k
unfolding word_of
word_below zero p = rw pow-zero (omega arith)
word_below (suc k) p =
    rw (pow-succ' 2 k) (elim (p 0) as (λ t. 2 * word_of k (λ c. p (suc c)) + cond t 1 0 < 2 * 2 ^ k) [
      | true ↦ omega (arith, word_below k (λ c. p (suc c)))
      | false ↦ omega (arith, word_below k (λ c. p (suc c)))
    ])

lowest : (w : ℕ) → w % 2 ≡ cond (bit w 0) 1 0
lowest w = rw (pow-zero, div-one) (go (eqb (w % 2) 1) refl)
  where
    go : (t : Bool) → eqb (w % 2) 1 ≡ t → w % 2 ≡ cond t 1 0
    go true e = eqb-true (w % 2) 1 e
    go false e = omega (arith, eqb-false (w % 2) 1 e, mod-lt w {m = 2} (omega arith))

pub word_is : (k : ℕ) (p : ℕ → Bool) (w : ℕ) → w < 2 ^ k → ((c : ℕ) → c < k → bit w c ≡ p c) → w ≡ word_of k p
unfolding word_of
word_is zero p w l h = omega (arith, rw pow-zero at l)
word_is (suc k) p w l h =
    let r : w / 2 ≡ word_of k (λ c. p (suc c)) =
    word_is k (λ c. p (suc c)) (w / 2) ((div-lt_iff_lt-mul (omega arith)).1 (rw (pow-suc 2 k) at l))
    (λ c m. sym (high w c) ∙ h (suc c) (omega arith)) in
    rw (← r, ← (h 0 (omega arith)), ← (lowest w)) (sym (div-add-mod w 2))

-- WORDS THAT DIFFER: words with the same flags are the same, and one flag more is one power of 2 more
pub word_same : (k : ℕ) (p q : ℕ → Bool) → ((c : ℕ) → c < k → p c ≡ q c) → word_of k p ≡ word_of k q
word_same k p q e = word_is k q (word_of k p) (word_below k p) (λ c l. word_bit k p c l ∙ e c l)

pub word_none : (k : ℕ) → word_of k (λ _. false) ≡ 0
unfolding word_of
word_none zero = refl
word_none (suc k) = omega (arith, word_none k)

pub word_set : (k : ℕ) (p q : ℕ → Bool) (c : ℕ) → c < k → p c ≡ false → q c ≡ true
    → ((d : ℕ) → d < k → d ≢ c → q d ≡ p d) → word_of k q ≡ word_of k p + 2 ^ c
unfolding word_of
word_set zero p q c l off on e = absurd (omega arith)
word_set (suc k) p q zero l off on e =
    rw (off, on, pow-zero)
    (omega (
      arith,
      word_same k (λ c. q (suc c)) (λ c. p (suc c)) (λ c m. e (suc c) (omega arith) (omega arith)),
    ))
word_set (suc k) p q (suc c) l off on e =
    rw (e 0 (omega arith) (omega arith), pow-succ' 2 c)
    (omega (
      arith,
      word_set k (λ c. p (suc c)) (λ c. q (suc c)) c (omega arith) off on
          (λ d m ne. e (suc d) (omega arith) (omega arith)),
    ))

-- a word without the flag of cell c has room for it
pub word_room : (k w c : ℕ) → w < 2 ^ k → c < k → bit w c ≡ false → w + 2 ^ c < 2 ^ k
word_room k w c h l off =
    omega (
      arith,
      word_is k (bit w) w h (λ d m. refl),
      word_set k (bit w) (λ d. eqb d c || bit w d) c l off (rw (eq-eqb c c refl))
          (λ d m ne. rw (ne_eqb d c ne)),
      word_below k (λ d. eqb d c || bit w d),
    )
