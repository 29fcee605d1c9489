-- Numbers in decimal: the digits that are printed, without leading zeros, and the value of digits that are
-- read, with any number of them. What is printed is digits alone (`decimal_digits`), and is read back
-- (`value_decimal`).
use mathlib.Core.{Path.◌≡◌, Path.refl, Path.sym, Path.◌∙◌, Path.ap, List.List, List.[], List.◌∷◌, List.◌++◌}
use Rattle.std.specs.Prelude.{ℕ, zero, suc, ◌+◌, ◌-◌, ◌*◌, ◌/◌, ◌%◌, ◌^◌, ◌<◌, ◌≤◌}
use Rattle.std.specs.Prelude.{Bool, true, false, cond, ◌&&◌}
use Rattle.std.proofs.Math.Bool.{and-eq-true_iff}
use native.Mathlib.{Nat.pow-succ', Omega.arith}
use lib.{ListN.length, ListN.set, ListN.length-append, Dec.leb, Dec.ltb}
use Rattle.std.proofs.Common.{lt-ltb, le-ltb, ltb-true, ltb-false, le-leb}
use Rattle.text_numbers.specs.Text.{Stored, stored_byte, stored_none}

-- is the byte one of `0` to `9`?
abbrev pub is_digit : ℕ → Bool
is_digit b = leb 48 b && leb b 57

unfoldable pub are_digits : List ℕ → Bool
are_digits [] = true
are_digits (b ∷ w) = is_digit b && are_digits w

-- the value of digits that follow those of v
unfoldable pub value_from : ℕ → List ℕ → ℕ
value_from v [] = v
value_from v (b ∷ w) = value_from (10 * v + (b - 48)) w

abbrev pub value_of : List ℕ → ℕ
value_of w = value_from 0 w

-- the digits of a number that has at most k
unfoldable pub digits_of : ℕ → ℕ → List ℕ
digits_of zero n = []
digits_of (suc k) n = cond (ltb n 10) ((48 + n) ∷ []) (digits_of k (n / 10) ++ ((48 + n % 10) ∷ []))

-- a number of 32 bits has at most ten
unfoldable pub decimal : ℕ → List ℕ
decimal n = digits_of 10 n

-- by one digit, or by one more than a tenth has
digits_one : (k n : ℕ) → n < 10 → digits_of (suc k) n ≡ (48 + n) ∷ []
unfolding digits_of
digits_one k n l = rw (lt-ltb n 10 l)

digits_next : (k n : ℕ) → 10 ≤ n → digits_of (suc k) n ≡ digits_of k (n / 10) ++ ((48 + n % 10) ∷ [])
unfolding digits_of
digits_next k n l = rw (le-ltb n 10 l)

-- small numbers have one digit, the others two or more
by_digits : {P : Type 0} (n : ℕ) → (n < 10 → P) → (10 ≤ n → P) → P
by_digits {P} n f g = go (ltb n 10) refl
  where
    go : (b : Bool) → ltb n 10 ≡ b → P
    go true e = f (ltb-true n 10 e)
    go false e = g (ltb-false n 10 e)

tenth_below : (k n : ℕ) → n < 10 ^ suc k → n / 10 < 10 ^ k
tenth_below k n l = omega (arith, rw (pow-succ' 10 k) at l)

some_digits : (k n : ℕ) → 10 ≤ n → n < 10 ^ suc k → 0 < k
some_digits zero n s l = absurd (omega arith)
some_digits (suc k) n s l = omega arith

-- a number with no more than k digits is printed alike with room for more
digits_same : (k n : ℕ) → n < 10 ^ k → 0 < k → digits_of (suc k) n ≡ digits_of k n
digits_same zero n l z = absurd (omega arith)
digits_same (suc k) n l z = by_digits n
    (λ s. digits_one (suc k) n s ∙ sym (digits_one k n s))
    (λ s. digits_next (suc k) n s
    ∙ ap (λ (w : List ℕ). w ++ ((48 + n % 10) ∷ [])) (digits_same k (n / 10) (tenth_below k n l)
    (some_digits k n s l)) ∙ sym (digits_next k n s))

-- FOR THE CODE
decimal_one : (n : ℕ) → n < 10 → decimal n ≡ (48 + n) ∷ []
unfolding decimal
decimal_one n l = digits_one 9 n l

decimal_next : (n : ℕ) → 10 ≤ n → n < 2 ^ 32 → decimal n ≡ decimal (n / 10) ++ ((48 + n % 10) ∷ [])
unfolding decimal
decimal_next n s l =
    digits_next 9 n s ∙ ap (λ (w : List ℕ). w ++ ((48 + n % 10) ∷ []))
    (sym (digits_same 9 (n / 10) (omega arith) (omega arith)))

-- one digit stored, or one more after those of a tenth
pub stored_digit : (old : List ℕ) (at n : ℕ) → n < 10
    → Stored old (set old at (48 + n)) at (at + 1) (decimal n)
stored_digit old at n l = rw (decimal_one n l) (stored_byte old old at at (48 + n) [] (stored_none old at))

pub stored_digits : (old mid : List ℕ) (at next n : ℕ) → Stored old mid at next (decimal (n / 10)) → 10 ≤ n
    → n < 2 ^ 32
    → Stored old (set mid next (48 + n % 10)) at (next + 1) (decimal n)
stored_digits old mid at next n p s l =
    rw (decimal_next n s l) (stored_byte old mid at next (48 + n % 10) (decimal (n / 10)) p)

-- HOW LONG a number's text is
digits_few : (k n : ℕ) → length (digits_of k n) ≤ k
unfolding digits_of
digits_few zero n = omega arith
digits_few (suc k) n = go (ltb n 10) (digits_few k (n / 10))
  where
    go : (b : Bool) → length (digits_of k (n / 10)) ≤ k
        → length (cond b ((48 + n) ∷ []) (digits_of k (n / 10) ++ ((48 + n % 10) ∷ []))) ≤ suc k
    go true h = omega arith
    go false h = simp length-append (omega arith)

pub decimal_few : (n : ℕ) → length (decimal n) ≤ 10
unfolding decimal
decimal_few n = digits_few 10 n

pub decimal_nine : (n : ℕ) → n < 10 ^ 9 → length (decimal n) ≤ 9
unfolding decimal
decimal_nine n l = rw (digits_same 9 n l (omega arith)) (digits_few 9 n)

pub decimal_five : (n : ℕ) → n < 10 ^ 5 → length (decimal n) ≤ 5
unfolding decimal
decimal_five n l =
    rw (
      digits_same 9 n (omega arith) (omega arith),
      digits_same 8 n (omega arith) (omega arith),
      digits_same 7 n (omega arith) (omega arith),
      digits_same 6 n (omega arith) (omega arith),
      digits_same 5 n l (omega arith),
    )
    (digits_few 5 n)

pub decimal_some : (n : ℕ) → 0 < length (decimal n)
unfolding decimal
decimal_some n = by_digits n
    (λ s. rw (digits_one 9 n s) (omega arith))
    (λ s. rw (digits_next 9 n s, length-append) (omega arith))

-- WHAT IS PRINTED IS DIGITS
digit_below : (n : ℕ) → n < 10 → is_digit (48 + n) ≡ true
digit_below n l = rw (le-leb 48 (48 + n) (omega arith), le-leb (48 + n) 57 (omega arith))

pub digits_append : (w : List ℕ) (b : ℕ) → are_digits w ≡ true → is_digit b ≡ true
    → are_digits (w ++ (b ∷ [])) ≡ true
unfolding are_digits
digits_append [] b e f = rw f
digits_append (a ∷ w) b e f =
    let (p, q) = (and-eq-true_iff (is_digit a) (are_digits w)).0 e in
    rw (p, digits_append w b q f)

are_digits_lem : (k n : ℕ) → are_digits (digits_of k n) ≡ true
are_digits_lem zero n = unfold digits_of are_digits in refl
are_digits_lem (suc k) n = by_digits n
    (λ s. rw (digits_one k n s) (digits_append [] (48 + n) (unfold are_digits in refl) (digit_below n s)))
    (λ s. rw (digits_next k n s)
    (digits_append (digits_of k (n / 10)) (48 + n % 10) (are_digits_lem k (n / 10)) (digit_below (n % 10)
    (omega arith))))

pub decimal_digits : (n : ℕ) → are_digits (decimal n) ≡ true
unfolding decimal
decimal_digits n = are_digits_lem 10 n

-- AND IS READ BACK
pub value_append : (v : ℕ) (w : List ℕ) (b : ℕ)
    → value_from v (w ++ (b ∷ [])) ≡ 10 * value_from v w + (b - 48)
unfolding value_from
value_append v [] b = refl
value_append v (a ∷ w) b = value_append (10 * v + (a - 48)) w b

value_one : (n : ℕ) → value_of ((48 + n) ∷ []) ≡ n
unfolding value_from
value_one n = omega arith

value_digits : (k n : ℕ) → n < 10 ^ k → 0 < k → value_of (digits_of k n) ≡ n
value_digits zero n l z = absurd (omega arith)
value_digits (suc k) n l z = by_digits n
    (λ s. rw (digits_one k n s) (value_one n))
    (λ s. rw
    (digits_next k n s, value_append, value_digits k (n / 10) (tenth_below k n l) (some_digits k n s l))
    (omega arith))

pub value_decimal : (n : ℕ) → n < 2 ^ 32 → value_of (decimal n) ≡ n
unfolding decimal
value_decimal n l = value_digits 10 n (omega arith) (omega arith)
