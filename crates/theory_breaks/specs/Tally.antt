-- Counting by adding up, along a row: a test's answer as 1 or 0, the entry before an entry, the count with
-- one index more, and with a block of indices more.
use mathlib.Core.{Path.◌≡◌, Path.refl, Path.sym, Path.◌∙◌, Bool.Bool, Bool.true, Bool.false, Bool.cond}
use mir.Val.{bool_byte}
use Rattle.std.specs.Prelude.{ℕ, zero, suc, ◌+◌, ◌-◌, ◌≤◌, ◌<◌}
use native.Mathlib.{Nat.add-zero, Numerals.add-one, Omega.arith}
use Rattle.theory_loops.specs.Count.{count, count_none, count_yes, count_no, count_same}

-- 1 for yes, 0 for no
abbrev pub flag : Bool → ℕ
flag b = cond b 1 0

-- as a cast or `from` makes a number of it
pub flag_of : (b : Bool) → bool_byte b ≡ flag b
flag_of true = refl
flag_of false = refl

pub flag_few : (b : Bool) → flag b ≤ 1
flag_few true = omega arith
flag_few false = omega arith

-- the entry before entry k of a row, and 0 before the first
unfoldable pub before : (ℕ → ℕ) → ℕ → ℕ
before f zero = 0
before f (suc k) = f k

module _ (p : ℕ → Bool) where
  -- FOR A LOOP
  pub tally_more : (c n r : ℕ) → c ≡ count n p → r ≡ flag (p n) → c + r ≡ count (n + 1) p
  tally_more c n r e f = go (p n) refl
    where
      go : (t : Bool) → p n ≡ t → c + r ≡ count (n + 1) p
      go true h = let o : r ≡ 1 = rw h at f in rw o (count_yes p c n e h)
      go false h = let o : r ≡ 0 = rw h at f in rw (o, add-zero) (count_no p c n e h)

  -- a count in two parts
  pub tally_parts : (m n : ℕ) → count m p + count n (λ k. p (m + k)) ≡ count (m + n) p
  tally_parts m zero = rw (← count_none (λ k. p (m + k)), add-zero m, add-zero)
  tally_parts m (suc n) = go (p (m + n)) refl (tally_parts m n)
    where
      z : m + suc n ≡ m + n + 1
      z = omega arith

      go : (t : Bool) → p (m + n) ≡ t → count m p + count n (λ k. p (m + k)) ≡ count (m + n) p
          → count m p + count (suc n) (λ k. p (m + k)) ≡ count (m + suc n) p
      go true h e =
          let f = count_yes p (count (m + n) p) (m + n) refl h in
          let g = count_yes (λ k. p (m + k)) (count n (λ k. p (m + k))) n refl h in
          rw (z, ← add-one n, ← f, ← g) (omega (arith, e))
      go false h e =
          let f = count_no p (count (m + n) p) (m + n) refl h in
          let g = count_no (λ k. p (m + k)) (count n (λ k. p (m + k))) n refl h in
          rw (z, ← add-one n, ← f, ← g) e

  -- a block of k indices more: its first, and the others, which were counted by themselves
  pub tally_block : (q : ℕ → Bool) (d k c r o : ℕ) → 0 < k → c ≡ count d p → r ≡ flag (p d)
      → o ≡ count (k - 1) q → ((e : ℕ) → e < k - 1 → q e ≡ p (d + 1 + e)) → c + r + o ≡ count (d + k) p
  tally_block q d k c r o h e f g same =
      let z : d + 1 + (k - 1) ≡ d + k = omega arith in
      rw (tally_more c d r e f, g, count_same q (λ i. p (d + 1 + i)) (k - 1) same)
      (tally_parts (d + 1) (k - 1) ∙ rw z)

-- a test that always holds is counted at each index
pub tally_all : (n : ℕ) → count n (λ _. true) ≡ n
tally_all zero = sym (count_none _)
tally_all (suc n) =
    rw (← add-one n) (sym (count_yes (λ _. true) (count n (λ _. true)) n refl refl) ∙ rw (tally_all n))
