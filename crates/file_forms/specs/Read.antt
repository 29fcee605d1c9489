-- What a reader of blocks finds at a block number: whether the file has that block, and its check is right.
use mathlib.Core.{Bool.Bool, Bool.true, Bool.false, Bool.not, Bool.◌&&◌, Bool.and-eq-true_iff, List.List}
use Rattle.std.specs.Prelude.{◌≡◌, ℕ, ◌/◌, ◌+◌, ◌≤◌, ◌<◌}
use Rattle.std.proofs.Common.{ap, ltb-true, lt-ltb}
use native.Mathlib.{Decide.dec_le, Omega.arith}
use lib.{ListN.length, Dec.ltb}
use Rattle.theory_loops.specs.{First.first, First.pass, First.stop, First.done, Pick.and_clear}
use Rattle.file_fields.specs.{Block.block_size, Sum.good}

-- the file has block b, and its check is right
abbrev pub good_at : List ℕ → ℕ → Bool
good_at file b = ltb b (length file / block_size) && good file b

-- block b's check is wrong
abbrev pub bad : List ℕ → ℕ → Bool
bad file b = not (good file b)

-- FOR A WALK that has passed right blocks alone, and stands at i: it goes past a right block, or has ended
module _ (file : List ℕ) (i : ℕ) (none : first i (bad file) ≡ i) where
  abbrev n : ℕ
  n = length file / block_size

  pub goes_on : good_at file i ≡ true → (i < n) × (first (i + 1) (bad file) ≡ i + 1)
  goes_on e =
      let h = (and-eq-true_iff (ltb i n) (good file i)).0 e in
      (ltb-true i n h.0, pass (bad file) i none (ap not h.1))

  pub stops : i ≤ n → good_at file i ≡ false → i ≡ first n (bad file)
  stops l e =
      elim (dec_le n i) [
        | yes h ↦ done (bad file) n i none l h
        | no h ↦
            let m : i < n = omega arith in
            stop (bad file) n i none m (ap not ((and_clear (ltb i n) (good file i)).0 e (lt-ltb i n m)))
      ]
