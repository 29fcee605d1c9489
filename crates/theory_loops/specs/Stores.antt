-- Texts stored one after the other: what several runs of stores leave is what one run leaves of all the
-- values.
use mathlib.Core.{Path.◌≡◌, Path.◌∙◌, Path.ap, List.List, List.[], List.◌∷◌, List.◌++◌}
use Rattle.std.specs.Prelude.{ℕ, suc, ◌+◌, ◌≤◌}
use native.Mathlib.{Nat.add-zero, Omega.arith}
use lib.{ListN.length, ListN.drop, ListN.set, Seq.sets, Seq.sets-eq}

-- a second run, from where the first one ends
pub sets_append : (xs ys l : List ℕ) (i : ℕ) → sets (sets l i xs) (i + length xs) ys ≡ sets l i (xs ++ ys)
sets_append [] ys l i = ap (λ (k : ℕ). sets l k ys) (add-zero i)
sets_append (x ∷ xs) ys l i =
    let q : i + suc (length xs) ≡ suc i + length xs = omega arith in
    ap (λ (k : ℕ). sets (sets (set l i x) (suc i) xs) k ys) q ∙ sets_append xs ys (set l i x) (suc i)

-- FOR CODE that stores a text after another: j is where the first ends
pub stored_next : (xs ys l m n : List ℕ) (i j : ℕ) → m ≡ sets l i xs → j ≡ i + length xs → n ≡ sets m j ys
    → n ≡ sets l i (xs ++ ys)
stored_next xs ys l m n i j e f g = g ∙ rw (e, f) (sets_append xs ys l i)

-- a run from the start leaves the rest
pub stored_front : (xs l : List ℕ) → length xs ≤ length l → sets l 0 xs ≡ xs ++ drop (length xs) l
stored_front xs l h =
    let z : 0 + length xs ≡ length xs = omega arith in
    rw z at (sets-eq xs l 0 (omega arith))
