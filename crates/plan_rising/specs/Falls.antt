-- Whether a tick does not rise above the one before it, as code asks it of numbers of 16 bits: both are moved
-- by half of those, so that the numbers below 2^15 stand above the others, as where numbers have a sign. That
-- is one step for a processor, for some at once, and among ticks below 2^15 it is their own order.
use mathlib.Core.{Path.◌≡◌, Path.refl, Bool.Bool, Bool.true, Bool.false, Bool.cond}
use Rattle.std.specs.Prelude.{ℕ, ◌+◌, ◌%◌, ◌<◌, ◌≤◌, nat_le, nat_lt}
use mir.Val.{bool_byte}
use Rattle.theory_breaks.specs.Tally.{flag, flag_of, flag_few}
use Rattle.std.proofs.Common.{arith}
use borrow.Author.Tests.{ltb-true, ltb-false, leb-false, lt-ltb, le-ltb, le-leb}

-- half of the numbers of 16 bits
abbrev pub half : ℕ
half = 32768

unfoldable pub moved : ℕ → ℕ
moved t = cond (nat_lt t half) (t + half) (t % half)

unfoldable pub falls : ℕ → ℕ → Bool
falls t before = nat_le (moved t) (moved before)

moved_low : (t : ℕ) → t < half → moved t ≡ t + half
unfolding moved
moved_low t l = rw (lt-ltb t half l)

moved_high : (t : ℕ) → half ≤ t → moved t < half
unfolding moved
moved_high t l = rw (le-ltb t half l) (omega arith)

-- what follows a tick below 2^15 and does not fall from it is above it, and below 2^15 too
pub rises : (s t : ℕ) → s < half → falls t s ≡ false → (s < t) × (t < half)
unfolding falls
rises s t l e = go (nat_lt t half) refl
  where
    go : (b : Bool) → nat_lt t half ≡ b → (s < t) × (t < half)
    go true f =
        let m = ltb-true t half f in
        (omega (arith, leb-false (moved t) (moved s) e, moved_low s l, moved_low t m), m)
    go false f = absurd (omega (
      arith,
      leb-false (moved t) (moved s) e,
      moved_low s l,
      moved_high t (ltb-false t half f),
    ))

-- and tick 0 falls from each of them
pub zero_falls : (t : ℕ) → t < half → falls 0 t ≡ true
unfolding falls
zero_falls t l =
    le-leb (moved 0) (moved t) (omega (arith, moved_low 0 (omega arith), moved_low t l))

-- FOR CODE that moves two numbers of 16 bits and compares
moved_word : (t : ℕ) → t < 65536 → (t + half) % 65536 ≡ moved t
unfolding moved
moved_word t l = go (nat_lt t half) refl
  where
    go : (b : Bool) → nat_lt t half ≡ b → (t + half) % 65536 ≡ cond b (t + half) (t % half)
    go true e = omega (arith, ltb-true t half e)
    go false e = omega (arith, ltb-false t half e)

pub words_fall : (t s : ℕ) → t < 65536 → s < 65536 → {r : ℕ}
    → r ≡ bool_byte (nat_le ((t + half) % 65536) ((s + half) % 65536)) → (r ≡ flag (falls t s)) × (r < 2)
unfolding falls
words_fall t s l m e =
    let z = rw (moved_word t l, moved_word s m, flag_of (nat_le (moved t) (moved s))) at e in
    (z, omega (arith, z, flag_few (nat_le (moved t) (moved s))))
