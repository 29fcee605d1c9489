-- Parts that lie one behind the other in one list, such as the points of all profiles: the whole list, and
-- where an entry of a part stands in it.
use mathlib.Core.{Path.◌≡◌, Path.refl, Path.◌∙◌, Path.ap, List.List, List.[], List.◌++◌}
use Prim.Native.Nat.{ℕ, zero, suc, ◌+◌, ◌-◌, ◌<◌}
use native.Mathlib.{Decide.ℕ_discrete, Decide.dec_lt, Omega.arith}
use lib.{ListN.length, ListN.get_or, ListN.length-append, ListN.get_or-append, Seq.get_or-append-add}
use Rattle.theory_loops.specs.Total.{total, total_part}

unfoldable pub joined : ℕ → (ℕ → List ℕ) → List ℕ
joined zero f = []
joined (suc n) f = joined n f ++ f n

-- where part k starts: behind the entries of the parts before it
abbrev pub part_start : (ℕ → List ℕ) → ℕ → ℕ
part_start f k = total k (λ i. length (f i))

module _ (f : ℕ → List ℕ) where
  pub joined_length : (n : ℕ) → length (joined n f) ≡ part_start f n
  unfolding joined total
  joined_length zero = refl
  joined_length (suc n) =
      length-append (joined n f) (f n) ∙ ap (λ (k : ℕ). k + length (f n)) (joined_length n)

  pub joined_at : (n k i : ℕ) → k < n → i < length (f k)
      → get_or (joined n f) (part_start f k + i) 0 ≡ get_or (f k) i 0
  unfolding joined
  joined_at zero k i l h = absurd (omega arith)
  joined_at (suc n) k i l h = elim (ℕ_discrete k n) [
    | yes e ↦ rw (e, ← (joined_length n)) (get_or-append-add (joined n f) (f n) i 0)
    | no e ↦
        get_or-append (joined n f) (f n) 0 (part_start f k + i)
        (omega (arith, joined_length n, total_part (λ j. length (f j)) k n (omega arith)))
        ∙ joined_at n k i (omega arith) h
  ]

  -- what every entry of every part is below, every entry of the whole is below
  pub joined_below : (m n : ℕ) → ((k i : ℕ) → k < n → i < length (f k) → get_or (f k) i 0 < m) → (q : ℕ)
      → q < length (joined n f) → get_or (joined n f) q 0 < m
  unfolding joined
  joined_below m zero h q l = absurd (omega arith)
  joined_below m (suc n) h q l = elim (dec_lt q (length (joined n f))) [
    | yes j ↦
        rw (get_or-append (joined n f) (f n) 0 q j)
        (joined_below m n (λ k i a b. h k i (omega arith) b) q j)
    | no j ↦
        let i = q - length (joined n f) in
        let e : q ≡ length (joined n f) + i = omega arith in
        rw (e, get_or-append-add (joined n f) (f n) i 0)
        (h n i (omega arith) (omega (arith, length-append (joined n f) (f n))))
  ]
