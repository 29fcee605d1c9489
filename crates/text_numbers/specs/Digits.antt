-- Digits that stand at a place of a text: the bytes from one place to another, up to nine and all of them
-- digits, and their value.
use mathlib.Core.{Path.◌≡◌, Path.◌∙◌, Logic.◌≢◌, Bool.true, Bool.and-eq-true_iff}
use Rattle.std.specs.Prelude.{ℕ, zero, suc, ◌+◌, ◌-◌, ◌*◌, ◌%◌, ◌^◌, ◌<◌, ◌≤◌, List, [], ◌∷◌, ◌++◌}
use native.Mathlib.{Numerals.add-one, Nat.pow-succ', Nat.pow-le-pow_right, Omega.arith}
use lib.{ListN.length, ListN.get_or, ListN.take, ListN.drop, ListN.length-take, ListN.length-drop, Dec.leb}
use Rattle.std.proofs.Common.{take-suc, take-add, get_or-take, get_or-drop, drop-drop, drop-cons}
use Rattle.std.proofs.Common.{le-leb, leb-true}
use Rattle.text_lines.specs.Lines.{Unended}
use Rattle.text_numbers.specs.Number.{is_digit, are_digits, value_from, value_of, digits_append}
use Rattle.text_numbers.specs.{Number.value_append, Spaced.Numeral}

-- the bytes of a text from one place to another
abbrev pub part : List ℕ → ℕ → ℕ → List ℕ
part text at end = take (end - at) (drop at text)

pub record DigitsAt (text : List ℕ) (at end value : ℕ) : Type 0 where
  pub after : at ≤ end
  pub few : end ≤ at + 9
  pub digits : are_digits (part text at end) ≡ true
  pub is : value_of (part text at end) ≡ value
  pub small : value < 10 ^ (end - at)

-- PARTS: one byte more, two that meet, and the first byte
pub part_more : (text : List ℕ) (at i : ℕ) → at ≤ i → i < length text
    → part text at (i + 1) ≡ part text at i ++ (get_or text i 0 ∷ [])
part_more text at i l m =
    let z : i + 1 - at ≡ suc (i - at) = omega arith in
    let y : at + (i - at) ≡ i = omega arith in
    let k : i - at < length (drop at text) = omega (arith, length-drop at text) in
    rw (z, take-suc (drop at text) (i - at) 0 k, get_or-drop at text (i - at) 0, y)

pub part_split : (text : List ℕ) (at mid end : ℕ) → at ≤ mid → mid ≤ end
    → part text at end ≡ part text at mid ++ part text mid end
part_split text at mid end l m =
    let z : end - at ≡ (mid - at) + (end - mid) = omega arith in
    let y : at + (mid - at) ≡ mid = omega arith in
    rw (z, take-add (mid - at) (end - mid) (drop at text), drop-drop (mid - at) at text, y)

pub part_first : (text : List ℕ) (at end : ℕ) → at < end → at < length text
    → part text at end ≡ get_or text at 0 ∷ part text (at + 1) end
part_first text at end l m =
    let z : end - at ≡ suc (end - (at + 1)) = omega arith in
    rw (z, drop-cons text at 0 m, ← add-one at)

-- ONE DIGIT MORE, by what is left of a byte without the code of `0`
abbrev pub DigitBy : ℕ → ℕ → Type 0
DigitBy byte digit = (digit + 48) % 2 ^ 32 ≡ byte

pub digits_more : (text : List ℕ) (at i value digit : ℕ) → DigitsAt text at i value → i < at + 9
    → i < length text → DigitBy (get_or text i 0) digit → digit ≤ 9
    → DigitsAt text at (i + 1) (10 * value + digit)
digits_more text at i value digit h f l by d =
    let b : is_digit (get_or text i 0) ≡ true =
    rw (le-leb 48 (get_or text i 0) (omega arith), le-leb (get_or text i 0) 57 (omega arith)) in
    let w : get_or text i 0 - 48 ≡ digit = omega arith in
    let z : i + 1 - at ≡ suc (i - at) = omega (arith, h.after) in
    let p : 10 ^ (i + 1 - at) ≡ 10 * 10 ^ (i - at) = rw z (pow-succ' 10 (i - at)) in
    record {
      after = omega (arith, h.after);
      few = omega arith;
      digits = rw (part_more text at i h.after l) (digits_append (part text at i) _ h.digits b);
      is = rw (part_more text at i h.after l, value_append, h.is, w);
      small = rw p (omega (arith, h.small));
    }

-- FOR THE CODE: no digits, and one more of those that are looked at
pub digits_none : (text : List ℕ) (at : ℕ) → DigitsAt text at at 0
unfolding are_digits value_from
digits_none text at =
    let z : at - at ≡ 0 = omega arith in
    record { after = omega arith; few = omega arith; digits = rw z; is = rw z; small = rw z (omega arith) }

pub digits_next : (text : List ℕ) (at k i value n digit : ℕ) → DigitsAt text at i value → i ≡ at + k → k < 9
    → k < n → i < length text → DigitBy (get_or (take n (drop at text)) k 0) digit → digit ≤ 9
    → DigitsAt text at (i + 1) (10 * value + digit)
digits_next text at k i value n digit h e l m some by d =
    let byte : get_or (take n (drop at text)) k 0 ≡ get_or text i 0 =
    rw e (get_or-take n (drop at text) k 0 m ∙ get_or-drop at text k 0) in
    digits_more text at i value digit h (omega arith) some (rw byte at by) d

-- and one to four
module _ (text : List ℕ) (at : ℕ) (room : at + 9 ≤ length text) (a : ℕ) (by₁ : DigitBy (get_or text at 0) a)
    (l₁ : a ≤ 9) where
  pub digits_one : DigitsAt text at (at + 1) a
  digits_one =
      let z : 10 * 0 + a ≡ a = omega arith in
      rw z at (digits_more text at at 0 a (digits_none text at) (omega arith) (omega arith) by₁ l₁)

  module _ (b : ℕ) (by₂ : DigitBy (get_or text (at + 1) 0) b) (l₂ : b ≤ 9) where
    pub digits_two : DigitsAt text at (at + 2) (10 * a + b)
    digits_two =
        let z : at + 1 + 1 ≡ at + 2 = omega arith in
        rw z at (digits_more text at (at + 1) a b digits_one (omega arith) (omega arith) by₂ l₂)

    module _ (c : ℕ) (by₃ : DigitBy (get_or text (at + 2) 0) c) (l₃ : c ≤ 9) where
      pub digits_three : DigitsAt text at (at + 3) (10 * (10 * a + b) + c)
      digits_three =
          let z : at + 2 + 1 ≡ at + 3 = omega arith in
          rw z at (digits_more text at (at + 2) (10 * a + b) c digits_two (omega arith) (omega arith) by₃ l₃)

      pub digits_four : (d : ℕ) → DigitBy (get_or text (at + 3) 0) d → d ≤ 9
          → DigitsAt text at (at + 4) (10 * (10 * (10 * a + b) + c) + d)
      digits_four d by₄ l₄ =
          let z : at + 3 + 1 ≡ at + 4 = omega arith in
          rw z at
          (digits_more text at (at + 3) (10 * (10 * a + b) + c) d digits_three (omega arith) (omega arith) by₄
          l₄)

-- for `search digits_read`
pub ruleset digits_read = (digits_none, digits_one, digits_two, digits_three, digits_four)

-- WHAT THEY ARE: a number of a line, where there are some, and no line feed
pub digits_numeral : (text : List ℕ) (at end value : ℕ) → DigitsAt text at end value → at < end
    → end ≤ length text → Numeral 9 (part text at end) value
digits_numeral text at end value h l m =
    let long : length (part text at end) ≡ end - at =
    length-take (end - at) (drop at text) ∙ omega (arith, length-drop at text) in
    let below : end - at ≤ 9 = omega (arith, h.few) in
    record {
      number = record { some = omega arith; digits = h.digits; value = h.is };
      few = omega (arith, h.few);
      small = omega (arith, h.small, pow-le-pow_right {n = 10} (omega arith) {i = end - at} {j = 9} below);
    }

digit_no_feed : (b : ℕ) → is_digit b ≡ true → b ≢ 10
digit_no_feed b d e = omega (arith, leb-true 48 b ((and-eq-true_iff (leb 48 b) (leb b 57)).0 d).0)

no_feed : (w : List ℕ) (k : ℕ) → are_digits w ≡ true → get_or w k 0 ≢ 10
unfolding are_digits
no_feed [] k d e = let z : ◌≡◌ {A = ℕ} 0 10 = e in omega arith
no_feed (b ∷ w) zero d e = digit_no_feed b ((and-eq-true_iff (is_digit b) (are_digits w)).0 d).0 e
no_feed (b ∷ w) (suc k) d e = no_feed w k ((and-eq-true_iff (is_digit b) (are_digits w)).0 d).1 e

pub digits_unended : (text : List ℕ) (at end value : ℕ) → DigitsAt text at end value → Unended text at end
digits_unended text at end value h k l m e =
    let y : at + (k - at) ≡ k = omega arith in
    no_feed (part text at end) (k - at) h.digits
    (get_or-take (end - at) (drop at text) (k - at) 0 (omega arith)
    ∙ (get_or-drop at text (k - at) 0 ∙ rw y e))
