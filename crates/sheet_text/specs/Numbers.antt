-- Several numbers in decimal, a space before each: what is stored of them by a loop, and how many bytes they
-- take at most, eleven a number and six a road.
use Rattle.std.specs.Prelude.{◌≡◌, refl, List, [], ◌∷◌, ◌++◌, ℕ, ◌+◌, ◌≤◌, ◌<◌}
use Rattle.std.proofs.Common.{◌∙◌, ap, append_assoc, append-nil}
use native.Mathlib.{Numerals.add-one, Omega.arith}
use lib.{ListN.length, ListN.get_or, ListN.set, ListN.take, Seq.take-suc, Seq.take-length}
use Rattle.text_numbers.specs.Text.{Stored, stored_none, stored_then}
use Rattle.text_numbers.specs.Number.{decimal, decimal_few, decimal_five}

unfoldable pub spaced : List ℕ → List ℕ
spaced [] = []
spaced (n ∷ ns) = 32 ∷ (decimal n ++ spaced ns)

pub spaced_append : (ns ms : List ℕ) → spaced (ns ++ ms) ≡ spaced ns ++ spaced ms
unfolding spaced
spaced_append [] ms = refl
spaced_append (a ∷ ns) ms =
    ap (λ (w : List ℕ). 32 ∷ (decimal a ++ w)) (spaced_append ns ms)
    ∙ ap (λ (w : List ℕ). 32 ∷ w) (rw append_assoc)

spaced_one : (n : ℕ) → spaced (n ∷ []) ≡ 32 ∷ decimal n
unfolding spaced
spaced_one n = ap (λ (w : List ℕ). 32 ∷ w) (append-nil (decimal n))

-- FOR THE CODE that stores a space and a number
pub stored_space : (old new : List ℕ) (at end n : ℕ) → Stored (set old at 32) new (at + 1) end (decimal n)
    → Stored old new at end (32 ∷ decimal n)
stored_space old new at end n p =
    record { bytes = rw (add-one at) at p.bytes; ends = omega (arith, p.ends) }

pub spaced_few : (old new : List ℕ) (at end n : ℕ) → Stored old new at end (32 ∷ decimal n) → end ≤ at + 11
spaced_few old new at end n p = omega (arith, p.ends, decimal_few n)

pub spaced_road : (old new : List ℕ) (at end n : ℕ) → Stored old new at end (32 ∷ decimal n) → n < 65536
    → end ≤ at + 6
spaced_road old new at end n p l = omega (arith, p.ends, decimal_five n (omega arith))

-- FOR A LOOP that stores numbers, of which the first i are stored
pub spaced_first : (ns old : List ℕ) (at : ℕ) → Stored old old at at (spaced (take 0 ns))
unfolding spaced
spaced_first ns old at = stored_none old at

pub spaced_next : (ns old mid new : List ℕ) (at next end i n : ℕ)
    → Stored old mid at next (spaced (take i ns)) → Stored mid new next end (32 ∷ decimal n)
    → n ≡ get_or ns i 0 → i < length ns → Stored old new at end (spaced (take (i + 1) ns))
spaced_next ns old mid new at next end i n p q e l =
    rw (add-one i, take-suc ns i 0, ← e, spaced_append, spaced_one)
    (stored_then old mid new at next end (spaced (take i ns)) (32 ∷ decimal n) p q)

pub spaced_last : (ns old new : List ℕ) (at end i : ℕ) → Stored old new at end (spaced (take i ns))
    → i ≤ length ns → length ns ≤ i → Stored old new at end (spaced ns)
spaced_last ns old new at end i p l m =
    let q : i ≡ length ns = omega arith in
    rw (take-length ns) at (rw q at p)

-- for `search numbers` in such a loop
pub ruleset numbers = (spaced_first, spaced_next, spaced_last)
