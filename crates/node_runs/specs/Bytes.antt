-- A byte of three answers: does an arc give less, does one give the same, and has one that does the flag.
-- Bytes are put together as the answers are, by `||`.
use Rattle.std.specs.Prelude.{◌≡◌, refl, Bool, true, false, cond, ◌&&◌, ◌||◌, ℕ, ◌+◌, ◌*◌, ◌<◌}
use Rattle.std.proofs.Common.{sym, ◌∙◌, arith, ltb-true, ne_eqb}
use lib.{Dec.ltb, Dec.eqb, Bits.bit_or, Bits.or_block}
use Rattle.day_merge.specs.Merged.{bits}

unfoldable pub digit : Bool → ℕ
digit b = cond b 1 0

unfoldable pub byte_of : Bool → Bool → Bool → ℕ
byte_of less same flagged = (digit flagged * 2 + digit same) * 2 + digit less

digit_small : (b : Bool) → digit b < 2
unfolding digit
digit_small true = omega arith
digit_small false = omega arith

digit_or : (b c : Bool) → bit_or (digit b) (digit c) ≡ digit (b || c)
unfolding digit
digit_or true true = refl
digit_or true false = refl
digit_or false true = refl
digit_or false false = refl

pub byte_or : (l s f l' s' f' : Bool)
    → bit_or (byte_of l s f) (byte_of l' s' f') ≡ byte_of (l || l') (s || s') (f || f')
unfolding byte_of
byte_or l s f l' s' f' =
    or_block 1 (digit f * 2 + digit s) (digit f' * 2 + digit s') (digit l) (digit l') (digit_small l)
    (digit_small l')
    ∙ rw (
      or_block 1 (digit f) (digit f') (digit s) (digit s') (digit_small s) (digit_small s'),
      digit_or l l',
      digit_or s s',
      digit_or f f',
    )

-- the bits that a merge sets, where those of the same are 6 with the flag and 2 without
abbrev pub same_bits : Bool → ℕ
same_bits flagged = cond flagged 6 2

pub bits_byte : (flagged : Bool) (g o : ℕ)
    → bits (same_bits flagged) g o ≡ byte_of (ltb g o) (eqb g o) (flagged && eqb g o)
unfolding bits byte_of digit
bits_byte flagged g o = go flagged (ltb g o) (eqb g o) refl refl
  where
    go : (f l s : Bool) → ltb g o ≡ l → eqb g o ≡ s
        → cond l 1 (cond s (same_bits f) 0)
        ≡ (cond (f && s) 1 0 * 2 + cond s 1 0) * 2 + cond l 1 0
    go true true s a b = let h = ltb-true g o a in rw (sym b ∙ ne_eqb g o (λ e. omega arith))
    go false true s a b = let h = ltb-true g o a in rw (sym b ∙ ne_eqb g o (λ e. omega arith))
    go true false true a b = refl
    go true false false a b = refl
    go false false true a b = refl
    go false false false a b = refl

-- FOR CODE that has read the flag
pub same_set : (f t : Bool) → t ≡ f → t ≡ true → 6 ≡ same_bits f
same_set f t e h = rw (← e, h)

pub same_unset : (f t : Bool) → t ≡ f → t ≡ false → 2 ≡ same_bits f
same_unset f t e h = rw (← e, h)
